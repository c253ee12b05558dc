-- A table's number, and the answers to which it leads. Day by day it shows whether the table keeps the rules, and how many minutes it opens; and of a
-- table that keeps the rules the open minutes before any minute are those of whole weeks, of whole days and of a part of a day.
use Prim.Native.Nat.{ℕ, ◌+◌, ◌*◌, ◌/◌, ◌%◌, ◌<◌}
use native.Mathlib.Omega.{arith}
use native.Mathlib.Nat.{div-add-mod'}
use mathlib.Core.Path.{◌≡◌, sym, ◌∙◌}
use mathlib.Core.List.{[]}
use mathlib.Core.Bool.{true, false}
use lib.ListN.{get_or}
use borrow.Author.Count.{below_more}
use Rattle.std.specs.Prelude.{Result, Ok, Err}
use Rattle.std.proofs.lemmas.Bool.Decides.{nat_tests}
use Rattle.numbers.proofs.All.{all_right}
use Rattle.numbers.proofs.Tests.{not_both}
use Rattle.spec.specs.Limits.{if_none}
use Rattle.spec.specs.declared.refusal.Refusal.{Refusal}
use Rattle.spec.specs.Refusals.{number_of}
use Rattle.spec.proofs.GoingOn.{stops}
use Rattle.spec.proofs.Refusals.{number_of_some}
use Rattle.duty.specs.Weeks.{Table, day_right, is_open, days_right, open_before, table_number, IsTable}
use Rattle.duty.specs.Minutes.{calendar_minute, calendar_of, duty_of}
use Rattle.duty.specs.Windows.{day_before, IsWeekMinute}
use Rattle.duty.proofs.OpenMinutes.{before_none, before_most, open_same, before_weeks, calendar_is}
use Rattle.duty.proofs.Days.{before_day, before_next}

module _ (table : Table) where
  pub day_right_lem : days_right table ≡ true → (k : ℕ) → k < 7 → day_right (get_or table k []) ≡ true
  unfolding days_right
  day_right_lem right = (all_right (λ k. day_right (get_or table k [])) 7).0 right

  -- a valid table keeps the rules and opens some minute of the week
  pub table_facts : IsTable table → (days_right table ≡ true) × (0 < open_before table 10_080)
  unfolding table_number
  table_facts e = (grind (arith, nat_tests), grind (arith, nat_tests))

  pub facts_table : days_right table ≡ true → 0 < open_before table 10_080 → IsTable table
  unfolding table_number
  facts_table right some = grind (arith, nat_tests)

  -- there is no number but 27
  pub number_27 : ¬ IsTable table → table_number table ≡ 27
  unfolding table_number
  number_27 wrong = grind (arith, nat_tests)

  -- it is the number of a table of which one day breaks the rules, and of one that opens no minute
  pub wrong_day : (k : ℕ) → k < 7 → day_right (get_or table k []) ≡ false → table_number table ≡ 27
  wrong_day k h wrong = number_27 (λ valid. not_both _ (day_right_lem (table_facts valid).0 k h) wrong)

  pub none_open : open_before table 10_080 ≡ 0 → table_number table ≡ 27
  none_open none = number_27 (λ valid. omega (arith, (table_facts valid).1))

  -- the first k days keep the rules, and w of their minutes are open
  pub record DaysPassed (k w : ℕ) : Type 0 where
    pub right : (i : ℕ) → i < k → day_right (get_or table i []) ≡ true
    pub counted : w ≡ open_before table (1_440 * k)

  pub passed_none : DaysPassed 0 0
  passed_none = record { right = λ i h. absurd (omega arith); counted = sym (before_none table) }

  pub passed_more : (k w : ℕ) → k < 7 → DaysPassed k w → day_right (get_or table k []) ≡ true → DaysPassed (k + 1) (w + day_before (get_or table k []) 1_440)
  passed_more k w h passed right = record {
    right = below_more _ k passed.right right;
    counted = let more = before_next table k h right in let counted = passed.counted in omega arith;
  }

  pub passed_all : (w : ℕ) → DaysPassed 7 w → (days_right table ≡ true) × (w ≡ open_before table 10_080)
  unfolding days_right
  passed_all w passed = ((all_right (λ k. day_right (get_or table k [])) 7).1 passed.right, passed.counted)

  -- open minutes by whole weeks, whole days and a part of a day
  pub before_parts : days_right table ≡ true → (w m : ℕ) → w ≡ open_before table 10_080 → open_before table m
      ≡ m / 10_080 * w + (open_before table (1_440 * (m % 10_080 / 1_440)) + day_before (get_or table (m % 10_080 / 1_440) []) (m % 10_080 % 1_440))
  before_parts right w m week =
      let k = m % 10_080 / 1_440 in
      let y = m % 10_080 % 1_440 in
      let inside : k < 7 = omega arith in
      let e : 1_440 * k + y ≡ m % 10_080 = omega arith in
      let b : open_before table (m % 10_080) ≡ open_before table (1_440 * k) + day_before (get_or table k []) y =
      rw e at (before_day table k inside (day_right_lem right k inside) y (omega arith)) in
      before_weeks table m ∙ rw (week, b)

  -- the answers
  pub refusal_given : (goOn : Result ℕ ℕ) (r : Refusal) → number_of r ≡ table_number table → Err (number_of r) ≡ if_none (table_number table) goOn Err
  refusal_given goOn r e = rw e (sym (stops (table_number table) goOn Err (λ valid. omega (arith, number_of_some r))))

  pub refuses_calendar : (d : ℕ) → ¬ IsTable table → calendar_of table d ≡ Err 27
  unfolding calendar_of if_none
  refuses_calendar d wrong = let e = number_27 wrong in grind (arith, nat_tests)

  pub refuses_duty : (m : ℕ) → ¬ IsTable table → duty_of table m ≡ Err 27
  unfolding duty_of if_none
  refuses_duty m wrong = let e = number_27 wrong in grind (arith, nat_tests)

  module _ (valid : IsTable table) where
    pub gives_calendar : (d : ℕ) → calendar_of table d ≡ Ok (calendar_minute table d)
    unfolding calendar_of if_none
    gives_calendar d = grind (arith, nat_tests)

    pub gives_duty : (m : ℕ) → is_open table m ≡ true → duty_of table m ≡ Ok (open_before table m)
    unfolding duty_of if_none
    gives_duty m e = grind (arith, nat_tests)

    pub refuses_closed : (m : ℕ) → is_open table m ≡ false → duty_of table m ≡ Err 28
    unfolding duty_of if_none
    refuses_closed m e = grind (arith, nat_tests)

    weeks_before : (q x : ℕ) → x < 10_080 → open_before table (q * 10_080 + x) ≡ q * open_before table 10_080 + open_before table x
    weeks_before q x h =
        let d : (q * 10_080 + x) / 10_080 ≡ q = omega arith in
        let r : (q * 10_080 + x) % 10_080 ≡ x = omega arith in
        rw (d, r) at (before_weeks table (q * 10_080 + x))

    -- whole weeks, and the open minute of one week with as many open ones before it as are left
    pub calendar_weeks : (w x d : ℕ) → w ≡ open_before table 10_080 → IsWeekMinute table (d % w) x → calendar_minute table d ≡ d / w * 10_080 + x
    calendar_weeks w x d e k =
        let r = d / w * 10_080 + x in
        let count : open_before table r ≡ d = weeks_before (d / w) x k.inside ∙ rw (k.count, ← e) (div-add-mod' d w) in
        rw count at (calendar_is table (table_facts valid).1 r (open_same table r x (omega arith) ∙ k.opens))

-- what the functions go by that count day by day, and that which does so as it tests the days
pub ruleset counted_days = (before_none, before_most, before_next, day_right_lem)

pub ruleset tested_days = (before_most, passed_none, passed_more, passed_all, wrong_day, none_open, facts_table)
