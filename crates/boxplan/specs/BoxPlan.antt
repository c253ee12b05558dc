-- The box plan, of the request "A plan the box can load" (beyond document 02). What a box takes is a cycle of 1 to 512 pairs, whose reports may
-- be up to J minutes late. "The largest gap s of its ranges at which some cycle of 1 to 512 pairs with that one gap throughout passes the
-- check with lateness J; at that gap the fewest pairs q; of those the fewest records p. It is a plan of the even kind with k = q, π = q × s,
-- δ = p." And what it turns down: "26 when J is above 1,440, after 24; 30 where there is none".
-- With lateness J, "every gap s − J .. s + J is allowed", P is P − J and R is R + J: those are what planned minutes must meet (crate `lateness`,
-- PlannedSpec.antt), and the definitions here are of that specification. Whether q pairs will do at a gap is said by arithmetic, so that it
-- computes; the theorems of the demands' page say, by the check alone, that no cycle with one gap does better.
use Rattle.std.specs.Prelude.{ℕ, ◌*◌, max, Bool, true, cond, ◌&&◌, leb, eqb, Option, None, Some, Result, Ok, Err}
use Rattle.numbers.specs.Numbers.{ceil, first}
use Rattle.spec.specs.declared.Rate.{Rate}
use Rattle.spec.specs.declared.Spec.{Spec}
use Rattle.spec.specs.Limits.{gap_allowed, gap_top}
use Rattle.lateness.specs.Lateness.{if_late}
use Rattle.lateness.specs.PlannedSpec.{planned_spec}
use Rattle.plan.specs.declared.Kind.TheVariants.{Even}
use Rattle.plan.specs.declared.Plan.{Plan}
use Rattle.plan.specs.Plans.{plan_of}
use Rattle.even.specs.Even.{count_at, largest}

-- n = ⌈R/s⌉, the most reports in any R minutes; none counts where supply is absent. (m = ⌊P/s⌋, the fewest in any P, is `count_at`.)
unfoldable pub most_at : Option Rate → ℕ → ℕ
most_at None s = 0
most_at (Some x) s = ceil x.minutes s

-- p = max(q × dmin, ⌈q × L/m⌉), the fewest records of q pairs of which every m in a row hold L; "an absent rate drops its part"
unfoldable pub fewest_records : Option Rate → (dmin m q : ℕ) → ℕ
fewest_records None dmin m q = q * dmin
fewest_records (Some x) dmin m q = max (q * dmin) (ceil (q * x.records) m)

-- n × p ≤ q × B
unfoldable pub supply_holds : Option Rate → (n q p : ℕ) → Bool
supply_holds None n q p = true
supply_holds (Some x) n q p = leb (n * p) (q * x.records)

-- q pairs will do: p "has p ≤ q × dmax and n × p ≤ q × B"; "m = 0 never does"
unfoldable pub pairs_fit : Spec → (m n q : ℕ) → Bool
pairs_fit spec m n q =
    let p = fewest_records spec.demand spec.dmin m q in
    leb 1 m && leb p (q * spec.dmax) && supply_holds spec.supply n q p

-- "the fewest pairs q", of 1 to 512, at the gap s; 513 where no number will do
unfoldable pub fewest_pairs : Spec → ℕ → ℕ
fewest_pairs spec s = first (pairs_fit spec (count_at spec.demand s) (most_at spec.supply s)) 512 1

-- some number of pairs will do at the gap s
unfoldable pub can_load : Spec → ℕ → Bool
can_load spec s = leb (fewest_pairs spec s) 512

-- "the largest gap s of its ranges at which some cycle .. passes"; 0 where there is none
unfoldable pub box_gap : Spec → ℕ
box_gap spec = largest (λ s. gap_allowed spec s && can_load spec s) (gap_top spec)

-- "k = q, π = q × s, δ = p"
unfoldable pub box_plan_at : Spec → ℕ → Plan
box_plan_at spec s =
    let q = fewest_pairs spec s in
    plan_of Even q (q * s) (fewest_records spec.demand spec.dmin (count_at spec.demand s) q)

-- "30 where there is none"
unfoldable pub plan_or30 : Spec → ℕ → Result Plan ℕ
plan_or30 spec s = cond (eqb s 0) (Err 30) (Ok (box_plan_at spec s))

-- the box plan of a specification as numbers, which begins with 3, 4 and 24, then 26
unfoldable pub box_plan : Spec → ℕ → Result Plan ℕ
box_plan spec lateness =
    let planned = planned_spec spec lateness in
    if_late spec lateness (plan_or30 planned (box_gap planned)) Err
