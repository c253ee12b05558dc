-- Which minutes belong together. The calendar minute of duty minute d is open and has d open ones before it, and there is no other such; the duty
-- minute of an open calendar minute is the number of those before it. So either undoes the other. Each answer is one of four cases: the
-- table is valid or not, and the minute open or closed.
use Prim.Native.Nat.{ℕ, zero, suc, ◌/◌, ◌%◌, ◌<◌}
use native.Mathlib.Omega.{arith}
use native.Mathlib.Decide.{dec_lt}
use native.Mathlib.Numerals.{add-one}
use mathlib.Core.Path.{◌≡◌, refl, ◌∙◌, ap}
use mathlib.Core.Logic.{◌↔◌}
use mathlib.Core.List.{List, [], ◌∷◌}
use mathlib.Core.Bool.{true, false, and-false}
use lib.ListN.{length, get_or}
use borrow.Author.Tests.{ne_eqb, le-ltb}
use Rattle.std.specs.Prelude.{Ok, Err}
use Rattle.std.proofs.lemmas.Bool.Decides.{nat_tests}
use Rattle.numbers.proofs.All.{all_right}
use Rattle.spec.specs.Limits.{if_none}
use Rattle.numbers.proofs.Tests.{not_both}
use Rattle.duty.specs.Weeks.{Table, day_right, day_open, is_open, days_right, open_before, table_number, IsTable}
use Rattle.duty.specs.Minutes.{calendar_minute, calendar_of, duty_of, table_of}
use Rattle.duty.proofs.OpenMinutes.{before_none, before_more, before_rises, open_same, calendar_open, calendar_before, calendar_is}
use Rattle.duty.proofs.Tables.{day_right_lem, table_facts, facts_table, number_27, refuses_calendar, refuses_duty, gives_calendar, gives_duty, refuses_closed}

-- where a count is not 0, some minute is open
some_open : (table : Table) (n : ℕ) → 0 < open_before table n → (m : ℕ) × (is_open table m ≡ true)
some_open table zero h = absurd (omega (arith, before_none table))
some_open table (suc n) h =
    elim (dec_lt 0 (open_before table n)) [ yes q ↦ some_open table n q | no q ↦ (n, let g = rw (← add-one n) at h in grind (arith, nat_tests, before_more)) ]

-- where some minute is open, some minute of the first week is
first_week : (table : Table) (m : ℕ) → is_open table m ≡ true → 0 < open_before table 10_080
first_week table m e =
    let x = m % 10_080 in
    omega (arith, before_rises table x 10_080 (open_same table x m (omega arith) ∙ e) (omega arith))

pub table_exact : (table : Table) → IsTable table ↔ (((k : ℕ) → k < 7 → day_right (get_or table k []) ≡ true) × ((m : ℕ) × (is_open table m ≡ true)))
unfolding days_right
table_exact table = (
  λ valid. let f = table_facts table valid in (day_right_lem table f.0, some_open table 10_080 f.1),
  λ h. facts_table table ((all_right (λ k. day_right (get_or table k [])) 7).1 h.0) (first_week table h.1.0 h.1.1),
)

-- Numbers of another count than 28 stand for days with no window, none of which has an open minute.
closed_days : ℕ → Table
closed_days zero = []
closed_days (suc n) = (0 ∷ 0 ∷ 0 ∷ 0 ∷ []) ∷ closed_days n

closed_day : (n k x : ℕ) → day_open (get_or (closed_days n) k []) x ≡ false
unfolding day_open closed_days
closed_day zero k x = rw (le-ltb x 0 (omega arith), and-false)
closed_day (suc n) zero x = rw (le-ltb x 0 (omega arith), and-false)
closed_day (suc n) (suc k) x = closed_day n k x

closed_table : (m : ℕ) → is_open (closed_days 7) m ≡ false
unfolding is_open
closed_table m = closed_day 7 (m % 10_080 / 1_440) (m % 10_080 % 1_440)

pub other_count : (l : List ℕ) → ¬ (length l ≡ 28) → table_number (table_of l) ≡ 27
unfolding table_of closed_days
other_count l h =
    let e : table_of l ≡ closed_days 7 = rw (ne_eqb (length l) 28 h) refl in
    rw e (number_27 (closed_days 7) (λ valid. let some = ((table_exact (closed_days 7)).0 valid).1 in not_both _ some.1 (closed_table some.0)))

-- the answers, by whether the table is valid and the minute open
module _ (table : Table) where
  pub calendar_of_duty : (d m : ℕ) → (calendar_of table d ≡ Ok m) ↔ (IsTable table × (is_open table m ≡ true) × (open_before table m ≡ d))
  unfolding calendar_of if_none
  calendar_of_duty d m = (
    λ e.
        let valid : IsTable table = grind (arith, nat_tests) in
        let some = (table_facts table valid).1 in
        let same : calendar_minute table d ≡ m = grind (arith, nat_tests) in
        (valid, rw same at (calendar_open table some d), rw same at (calendar_before table some d)),
    λ h. gives_calendar table h.0 d ∙ ap Ok (rw h.2 at (calendar_is table (table_facts table h.0).1 m h.1)),
  )

  pub calendar_27 : (d : ℕ) → (calendar_of table d ≡ Err 27) ↔ (¬ IsTable table)
  calendar_27 d = (λ e valid. let given = gives_calendar table valid d in cc, refuses_calendar table d)

  pub duty_of_calendar : (m d : ℕ) → (duty_of table m ≡ Ok d) ↔ (IsTable table × (is_open table m ≡ true) × (open_before table m ≡ d))
  unfolding duty_of if_none
  duty_of_calendar m d = (
    λ e. (grind (arith, nat_tests), grind (arith, nat_tests), grind (arith, nat_tests)),
    λ h. gives_duty table h.0 m h.1 ∙ ap Ok h.2,
  )

  pub duty_27 : (m : ℕ) → (duty_of table m ≡ Err 27) ↔ (¬ IsTable table)
  unfolding duty_of if_none
  duty_27 m = (λ e valid. grind (arith, nat_tests), refuses_duty table m)

  pub duty_28 : (m : ℕ) → (duty_of table m ≡ Err 28) ↔ (IsTable table × (is_open table m ≡ false))
  unfolding duty_of if_none
  duty_28 m = (
    λ e. (grind (arith, nat_tests, number_27), grind (arith, nat_tests, number_27)),
    λ h. refuses_closed table h.0 m h.1,
  )
