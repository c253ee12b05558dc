-- Document 01, "What each operation turns down": schedules for k reports and the test begin with 3 and 4; "5 a rate is absent". (Either
-- schedule for k needs both rates: one gives the schedule, the other the minutes of its supply figure.) Document 02, Req 06: "25 when
-- consistency, a k-report schedule or the test is given a specification with a second range, next after 24."
use Rattle.std.specs.Prelude.{ℕ, ◌≡◌, Option, None, Some, Result, Ok, Err}
use Rattle.spec.specs.declared.Rate.{Rate}
use Rattle.spec.specs.declared.Range.{Range}
use Rattle.spec.specs.declared.Spec.{Spec}
use Rattle.spec.specs.declared.Rates.{Rates}
use Rattle.spec.specs.Limits.{IsAccepted, if_none, if_accepted}

-- "25 when .. given a specification with a second range"
unfoldable pub second_number : Option Range → ℕ
second_number None = 0
second_number (Some x) = 25

-- 3, 4 and 24, then 25: with these begin consistency, schedules for k reports and the test
unfoldable pub one_range_number : Spec → ℕ
one_range_number s = if_accepted s (second_number s.second) (λ n. n)

-- an accepted specification "with a second range"
abbrev pub HasTwoRanges : Spec → Type 0
HasTwoRanges s = IsAccepted s × (¬ (s.second ≡ None))

abbrev pub if_one_range : {A : Type 0} → Spec → A → (ℕ → A) → A
if_one_range s = if_none (one_range_number s)

-- B, R, L and P, where both rates are there
unfoldable pub rates_from : Option Rate → Option Rate → Result Rates ℕ
rates_from (Some x) (Some y) = Ok (record { b = x.records; r = x.minutes; l = y.records; p = y.minutes })
rates_from (Some x) None = Err 5
rates_from None demand = Err 5

unfoldable pub both_rates : Spec → Result Rates ℕ
both_rates s = rates_from s.supply s.demand

-- goes on with both rates, else tells the number
abbrev pub if_rates : {A : Type 0} → Result Rates ℕ → (Rates → A) → (ℕ → A) → A
if_rates (Ok q) goOn tell = goOn q
if_rates (Err n) goOn tell = tell n

-- 3, 4, 24 and 25, then 5
unfoldable pub started : Spec → Result Rates ℕ
started s = if_one_range s (both_rates s) Err
