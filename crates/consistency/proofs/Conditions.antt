-- A consistent specification is accepted and has one range of gaps, and conditions 4 and 5 hold of it; such a one is consistent or fails a
-- condition, and 25 is given exactly to an accepted one with two.
use Prim.Native.Nat.{ℕ, ◌*◌, ◌/◌, ◌≤◌, ◌<◌}
use mathlib.Core.Path.{◌≡◌, refl, sym, ◌∙◌}
use mathlib.Core.Logic.{◌↔◌}
use mathlib.Core.Bool.{Bool, true, false, cond}
use borrow.Author.Tests.{leb-true, leb-false}
use Rattle.numbers.specs.Numbers.{ceil}
use Rattle.std.specs.Prelude.{Option, None, Some, Result, Ok, Err}
use Rattle.spec.specs.declared.Rate.{Rate}
use Rattle.spec.specs.declared.Spec.{Spec}
use Rattle.spec.specs.Limits.{rate_of}
use Rattle.spec.specs.Rates.{one_range_number, HasTwoRanges}
use Rattle.spec.proofs.GoingOn.{HasOneRange, goes_on, went_on, tells_25}
use Rattle.consistency.specs.declared.Condition.TheVariants.{BoundsFitRates, FewestReportsFitBudget, EnoughReportsForDemand, SupplyCoversDemand}
use Rattle.consistency.specs.Consistency.{Failing, inconsistent, refused, where_there, bounds_fit_rates, fewest_reports_fit_budget, enough_reports_for_demand, supply_covers_demand, conditions_of, consistency_of}

-- what the conditions give: consistent, where conditions 4 and 5 hold, or a condition that fails
Judged : Result (Unit {0}) Failing → Bool → Bool → Type 0
Judged (Ok u) fourth fifth = (fourth ≡ true) × (fifth ≡ true)
Judged (Err (inconsistent BoundsFitRates)) fourth fifth = Unit {0}
Judged (Err (inconsistent FewestReportsFitBudget)) fourth fifth = fourth ≡ false
Judged (Err (inconsistent EnoughReportsForDemand)) fourth fifth = Unit {0}
Judged (Err (inconsistent SupplyCoversDemand)) fourth fifth = Unit {0}
Judged (Err (refused n)) fourth fifth = ⊥

conditions_judged : (s : Spec) → Judged (conditions_of s) (fewest_reports_fit_budget s) (enough_reports_for_demand s)
unfolding conditions_of Judged
conditions_judged s = pick (bounds_fit_rates s) (fewest_reports_fit_budget s) (enough_reports_for_demand s) (supply_covers_demand s)
  where
    pick : (a b c d : Bool)
        → Judged (cond a (cond b (cond c (cond d (Ok tt) (Err (inconsistent SupplyCoversDemand))) (Err (inconsistent EnoughReportsForDemand))) (Err (inconsistent FewestReportsFitBudget))) (Err (inconsistent BoundsFitRates))) b c
    pick true true true true = (refl, refl)
    pick true true true false = tt
    pick true true false d = tt
    pick true false c d = refl
    pick false b c d = tt

both_told : (s : Spec) (c : Result (Unit {0}) Failing) → ((n : ℕ) → ¬ (Err (refused n) ≡ c)) → consistency_of s ≡ c → HasOneRange s × (conditions_of s ≡ c)
unfolding consistency_of
both_told s c told e = went_on (one_range_number s) (conditions_of s) (λ n. Err (refused n)) c (λ some. told (one_range_number s)) e

consistent_told : (s : Spec) → consistency_of s ≡ Ok tt → HasOneRange s × (conditions_of s ≡ Ok tt)
consistent_told s e = both_told s (Ok tt) (λ n h. cc) e

pub consistent_one_range : (s : Spec) → consistency_of s ≡ Ok tt → HasOneRange s
consistent_one_range s e = (consistent_told s e).0

-- Condition 4, where there is a supply rate; and what it turns away has one and breaks it.
pub fourth_holds : (s : Spec) (b r : ℕ) → consistency_of s ≡ Ok tt → s.supply ≡ Some (rate_of b r) → s.dmin * ceil r s.smax ≤ b
unfolding Judged fewest_reports_fit_budget where_there
fourth_holds s b r e supply = leb-true _ _ (rw supply at (rw (consistent_told s e).1 at (conditions_judged s)).0)

pub fourth_fails : (s : Spec) → consistency_of s ≡ Err (inconsistent FewestReportsFitBudget)
    → HasOneRange s × ((b : ℕ) × (r : ℕ) × (s.supply ≡ Some (rate_of b r)) × (b < s.dmin * ceil r s.smax))
unfolding Judged fewest_reports_fit_budget where_there
fourth_fails s e =
    let told = both_told s (Err (inconsistent FewestReportsFitBudget)) (λ n h. cc) e in
    (told.0, pick s.supply refl (rw told.1 at (conditions_judged s)))
  where
    pick : (x : Option Rate) → s.supply ≡ x → fewest_reports_fit_budget s ≡ false → (b : ℕ) × (r : ℕ) × (s.supply ≡ Some (rate_of b r)) × (b < s.dmin * ceil r s.smax)
    pick None h x = absurd (let y = rw h at x in cc)
    pick (Some x) h e = (x.records, x.minutes, h, leb-false _ _ (rw h at e))

-- Condition 5, where there is a demand rate.
pub fifth_holds : (s : Spec) (l p : ℕ) → consistency_of s ≡ Ok tt → s.demand ≡ Some (rate_of l p) → ceil l s.dmax ≤ p / s.smin
unfolding Judged enough_reports_for_demand where_there
fifth_holds s l p e demand = leb-true _ _ (rw demand at (rw (consistent_told s e).1 at (conditions_judged s)).1)

pub one_range_no_number : (s : Spec) → HasOneRange s → (n : ℕ) → consistency_of s ≡ Err (refused n) → ⊥
unfolding consistency_of Judged
one_range_no_number s a n e = let x = sym (goes_on (one_range_number s) (conditions_of s) (λ n. Err (refused n)) a) ∙ e in rw x at (conditions_judged s)

pub consistency_25 : (s : Spec) → (consistency_of s ≡ Err (refused 25)) ↔ HasTwoRanges s
unfolding consistency_of Judged
consistency_25 s = tells_25 s (conditions_of s) (λ n. Err (refused n)) (λ n e. cc) (λ one e. rw e at (conditions_judged s))
