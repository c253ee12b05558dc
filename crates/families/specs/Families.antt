-- Document 01, "Schedules from document 000": "Minimum demand, k reports" and "Maximum supply, k reports", when each exists, its plan
-- and its supply figure; "What each operation turns down": "Minimum demand or maximum supply for k: 5 the rate it rests on, or the
-- rate its supply figure needs, is absent; 6 no schedule with k." Both rates are needed by either: one gives the schedule, the other
-- the minutes of its figure. k is any number; 0 and those too large have no schedule by the inequalities themselves. Document 02, Req 06:
-- 24, and 25 before 5.
use Rattle.std.specs.Prelude.{ℕ, zero, suc, ◌-◌, ◌*◌, min, max, Bool, cond, ◌&&◌, leb, Result, Ok, Err}
use Rattle.spec.specs.declared.Spec.{Spec}
use Rattle.spec.specs.declared.Rates.{Rates}
use Rattle.spec.specs.Rates.{started, if_rates}
use Rattle.schedule.specs.Schedules.{stretch}
use Rattle.plan.specs.declared.Kind.TheVariants.{WellFormed}
use Rattle.plan.specs.declared.Plan.{Plan}
use Rattle.plan.specs.Plans.{proper, run, plan_of}
use Rattle.families.specs.declared.Family.{Family}
use Rattle.families.specs.declared.Family.TheVariants.{MinimumDemand, MaximumSupply}
use Rattle.families.specs.declared.Scheduled.{Scheduled}

-- "It exists when k × smin ≤ P and k × dmax ≥ L."; "It exists when k × smax ≥ R and k × dmin ≤ B."
unfoldable pub exists : Family → Spec → Rates → ℕ → Bool
exists MinimumDemand s q k = leb (k * s.smin) q.p && leb q.l (k * s.dmax)
exists MaximumSupply s q k = leb q.r (k * s.smax) && leb (k * s.dmin) q.b

-- "π is the smaller of k × smax and P, δ the larger of k × dmin and L"; "π is the larger of k × smin and R, δ the smaller of k × dmax and B"
unfoldable pub plan_for : Family → Spec → Rates → ℕ → Plan
plan_for MinimumDemand s q k = plan_of WellFormed k (min (k * s.smax) q.p) (max (k * s.dmin) q.l)
plan_for MaximumSupply s q k = plan_of WellFormed k (max (k * s.smin) q.r) (min (k * s.dmax) q.b)

-- "Its required supply is what minutes 0 to R − 1 hold."
unfoldable pub required : Plan → ℕ → ℕ
required plan r = stretch (run plan) 0 r

-- the least of f 0, .., f n
unfoldable pub least : (ℕ → ℕ) → ℕ → ℕ
least f zero = f zero
least f (suc n) = min (least f n) (f (suc n))

-- "Its available supply is the least that any stretch of P minutes holds". The run repeats with the period, so that the starts of
-- one period are all: `available_least` of proofs/Figures.antt says so of every start.
unfoldable pub available : Plan → ℕ → ℕ
available plan p = least (λ a. stretch (run plan) a p) (plan.period - 1)

-- the supply figure of a schedule
unfoldable pub supply_figure : Family → Rates → Plan → ℕ
supply_figure MinimumDemand q plan = required plan q.r
supply_figure MaximumSupply q plan = available plan q.p

-- the figure of any plan: one that is not proper is no schedule, and has 0
unfoldable pub figure_of : Family → Rates → Plan → ℕ
figure_of f q plan = cond (proper plan) (supply_figure f q plan) 0

-- a schedule by its plan and its supply figure
abbrev pub schedule_of : Plan → ℕ → Scheduled
schedule_of plan v = record { plan = plan; supply = v }

-- the schedule with k reports and its supply figure, whether or not there is one
unfoldable pub schedule_with : Family → Spec → Rates → ℕ → Scheduled
schedule_with f s q k = schedule_of (plan_for f s q k) (supply_figure f q (plan_for f s q k))

-- the plan for k reports and the figure of any plan: where there is a schedule with k reports, that schedule (`planned_is` of proofs/Plans.antt)
unfoldable pub planned : Family → Spec → Rates → ℕ → Scheduled
planned f s q k = schedule_of (plan_for f s q k) (figure_of f q (plan_for f s q k))

-- the schedule with k reports, or "6 no schedule with k"
unfoldable pub scheduled : Family → Spec → Rates → ℕ → Result Scheduled ℕ
scheduled f s q k = cond (exists f s q k) (Ok (schedule_with f s q k)) (Err 6)

-- 3, 4, 24 and 25, "5 the rate it rests on, or the rate its supply figure needs, is absent", then 6
unfoldable pub schedule_for : Family → Spec → ℕ → Result Scheduled ℕ
schedule_for f s k = if_rates (started s) (λ q. scheduled f s q k) Err
