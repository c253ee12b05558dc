-- Document 01, "Consistency (000, Theorem 1; 1 and 2 are the ranges): 3: dmax ≤ B, smax ≤ P, P ≤ Tmin. 4: ..
-- 5: ⌈L/dmax⌉ ≤ ⌊P/smin⌋. 6: B × P ≥ L × R. A part that names an absent value is not applied."; document 02, Req 07: "Condition 4
-- becomes dmin × ⌈R/smax⌉ ≤ B"; and what it turns down: 3, 4, 24 and 25 (document 02, Req 06), then "7, carrying the first condition
-- that fails". Each part of condition 3 is applied by itself: P ≤ Tmin waits for no supply rate.
use Rattle.std.specs.Prelude.{ℕ, ◌*◌, ◌/◌, Bool, true, cond, ◌&&◌, leb, Option, None, Some, Result, Ok, Err}
use Rattle.spec.specs.declared.Spec.{Spec}
use Rattle.spec.specs.Refusals.{number_of}
use Rattle.spec.specs.Rates.{if_one_range}
use Rattle.numbers.specs.Numbers.{ceil}
use Rattle.consistency.specs.declared.Condition.{Condition}
use Rattle.consistency.specs.declared.Condition.TheVariants.{BoundsFitRates, FewestReportsFitBudget, EnoughReportsForDemand, SupplyCoversDemand}
use Rattle.consistency.specs.declared.Unfit.{Unfit}
use Rattle.consistency.specs.declared.Unfit.TheVariants.{Inconsistent, Refused}

-- why a specification fails: "7, carrying the first condition that fails", or another number
pub data Failing : Type 0 where
  inconsistent : Condition → Failing
  refused : ℕ → Failing

-- "7, carrying the first condition that fails", or the other number
abbrev pub failing_number : Failing → ℕ
failing_number (inconsistent c) = 7
failing_number (refused n) = n

-- an answer of the code with its refusal's number in place of the name, as the definitions give it
abbrev pub failing_of : Unfit → Failing
failing_of (Inconsistent c) = inconsistent c
failing_of (Refused r) = refused (number_of r)

abbrev pub told : {A : Type 0} → Result A Unfit → Result A Failing
told (Ok a) = Ok a
told (Err e) = Err (failing_of e)

-- a part that names the numbers of a rate or a range: "not applied" where it is absent
unfoldable pub where_there : {A : Type 0} → Option A → (A → Bool) → Bool
where_there None part = true
where_there (Some x) part = part x

-- "3: dmax ≤ B, smax ≤ P, P ≤ Tmin."
unfoldable pub size_fits_budget : Spec → Bool
size_fits_budget s = where_there s.supply (λ supply. leb s.dmax supply.records)

unfoldable pub gap_fits_demand : Spec → Bool
gap_fits_demand s = where_there s.demand (λ demand. leb s.smax demand.minutes)

unfoldable pub demand_fits_duration : Spec → Bool
demand_fits_duration s = where_there s.demand (λ demand. where_there s.duration (λ duration. leb demand.minutes duration.min))

unfoldable pub bounds_fit_rates : Spec → Bool
bounds_fit_rates s = size_fits_budget s && gap_fits_demand s && demand_fits_duration s

-- "R minutes that begin with one hold at least ⌈R/smax⌉ reports. Condition 4 becomes dmin × ⌈R/smax⌉ ≤ B"
unfoldable pub fewest_reports_fit_budget : Spec → Bool
fewest_reports_fit_budget s = where_there s.supply (λ supply. leb (s.dmin * ceil supply.minutes s.smax) supply.records)

-- "5: ⌈L/dmax⌉ ≤ ⌊P/smin⌋."
unfoldable pub enough_reports_for_demand : Spec → Bool
enough_reports_for_demand s = where_there s.demand (λ demand. leb (ceil demand.records s.dmax) (demand.minutes / s.smin))

-- "6: B × P ≥ L × R."
unfoldable pub supply_covers_demand : Spec → Bool
supply_covers_demand s =
    where_there s.supply (λ supply. where_there s.demand (λ demand. leb (demand.records * supply.minutes) (supply.records * demand.minutes)))

-- "the first condition that fails (3 to 6 of the list above ..); otherwise consistent"
unfoldable pub conditions_of : Spec → Result (Unit {0}) Failing
conditions_of s =
    cond (bounds_fit_rates s)
    (cond (fewest_reports_fit_budget s)
    (cond (enough_reports_for_demand s)
    (cond (supply_covers_demand s) (Ok tt) (Err (inconsistent SupplyCoversDemand)))
    (Err (inconsistent EnoughReportsForDemand)))
    (Err (inconsistent FewestReportsFitBudget)))
    (Err (inconsistent BoundsFitRates))

unfoldable pub consistency_of : Spec → Result (Unit {0}) Failing
consistency_of s = if_one_range s (conditions_of s) (λ n. Err (refused n))
