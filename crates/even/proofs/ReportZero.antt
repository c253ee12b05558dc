-- Report 0 may hold less than any other, so rows that include it may hold less than the plan sends. Sizes 1 to 3, gap 5, at least 3 records in any
-- 7 minutes: the even plan has k = 1 and δ = 3. A report of 1 record and from then on reports of 3 obey all the same: the 7 minutes from minute 0 on
-- have two reports, and those from any later minute on have one at least, which is not report 0.
use Prim.Native.Nat.{ℕ, zero, suc, ◌/◌, ◌≤◌, ◌<◌}
use native.Mathlib.Omega.{arith}
use native.Mathlib.Nat.{le_trans}
use mathlib.Core.Path.{◌≡◌, refl}
use mathlib.Core.Bool.{true}
use Rattle.std.specs.Prelude.{None, Some, Ok}
use Rattle.spec.specs.declared.Spec.{Spec}
use Rattle.spec.specs.Limits.{rate_of, size_allowed, gap_allowed, in_range, top_of, spec_number, first_number, limits, order, rate_limits, range_limits, range_order, starts_above, if_none}
use Rattle.numbers.specs.Numbers.{ceil}
use Rattle.numbers.proofs.Ceilings.{ceil_add_least, ceil_reach}
use Rattle.schedule.specs.Schedules.{sum, stretch, held_from}
use Rattle.schedule.specs.Rules.{Obeys}
use Rattle.schedule.proofs.Sums.{block, block_one, block_part}
use Rattle.plan.specs.declared.Plan.{Plan}
use Rattle.plan.specs.declared.Kind.TheVariants.{Even}
use Rattle.plan.specs.Plans.{plan_of}
use Rattle.even.specs.Even.{count_at, total_of, demand_fits, supply_fits, fits, largest, even_gap, even_plan_at, plan_or10, even_plan, evenly}
use Rattle.even.proofs.OneGap.{even_stretch}

abbrev fleet : Spec
fleet = record { dmin = 1; dmax = 3; smin = 5; smax = 5; supply = None; demand = Some (rate_of 3 7); duration = None; second = None }

thin_first : ℕ → ℕ
thin_first zero = 1
thin_first (suc i) = 3

later : (i : ℕ) → 1 ≤ i → 3 ≤ thin_first i
unfolding thin_first
later zero h = absurd (omega arith)
later (suc i) h = omega arith

allowed : (i : ℕ) → size_allowed fleet (thin_first i) ≡ true
unfolding thin_first size_allowed
allowed zero = refl
allowed (suc i) = refl

enough : (a : ℕ) → 3 ≤ stretch (evenly 5 thin_first) a 7
unfolding thin_first stretch held_from
enough zero = let e : stretch (evenly 5 thin_first) 0 7 ≡ 4 = refl in omega arith
enough (suc a) =
    let i = ceil (suc a) 5 in
    let some : 1 ≤ i = omega (arith, ceil_reach 5 (omega arith) (suc a)) in
    let one : 3 ≤ block thin_first i 1 = rw block_one (later i some) in
    rw (even_stretch 5 (omega arith) thin_first (suc a) 7)
    (le_trans one (block_part thin_first i 1 _ (omega (arith, ceil_add_least 5 (omega arith) (suc a) 7))))

planned : even_plan fleet ≡ Ok (plan_of Even 1 5 3)
unfolding even_plan plan_or10 even_plan_at even_gap largest fits demand_fits supply_fits count_at total_of gap_allowed in_range top_of if_none spec_number first_number limits order rate_limits range_limits range_order starts_above
planned = refl

pub report_0_thinner : (s : Spec) × (p : Plan) × (sizes : ℕ → ℕ)
    × (even_plan s ≡ Ok p) × Obeys s (evenly (p.period / p.count) sizes) × (sum sizes p.count < p.total)
unfolding thin_first sum gap_allowed
report_0_thinner = (
  fleet,
  plan_of Even 1 5 3,
  thin_first,
  planned,
  record { sizes = allowed; gaps = λ i. refl; supply = tt; demand = enough },
  let e : sum thin_first 1 ≡ 1 = refl in omega arith,
)
