-- A day by its windows. Those of a day that keeps the rules are in order and do not overlap, so each open minute is in one of them, and past each
-- minute of a window there is one more of it to count. Days follow each other in the week.
use Prim.Native.Nat.{ℕ, zero, suc, ◌+◌, ◌-◌, ◌*◌, ◌/◌, ◌%◌, ◌≤◌, ◌<◌}
use native.Mathlib.Omega.{arith}
use native.Mathlib.Nat.{add-zero, add_assoc, mod-eq_of_lt}
use native.Mathlib.Numerals.{add-one}
use mathlib.Core.Path.{◌≡◌, ◌∙◌}
use mathlib.Core.List.{List, []}
use mathlib.Core.Bool.{true, cond}
use lib.ListN.{get_or}
use Rattle.std.proofs.lemmas.Bool.Decides.{nat_tests}
use Rattle.duty.specs.Weeks.{Table, part, day_right, day_open, is_open, open_before}
use Rattle.duty.specs.Windows.{day_before, IsDayMinute, IsWeekMinute}
use Rattle.duty.proofs.OpenMinutes.{before_more}

module _ (day : List ℕ) (right : day_right day ≡ true) where
  day_none : day_before day 0 ≡ 0
  unfolding day_before
  day_none = omega arith

  -- past each minute that is open there is one more of them
  day_step : (x : ℕ) → day_before day (x + 1) ≡ day_before day x + cond (day_open day x) 1 0
  unfolding day_right day_before day_open
  day_step x = grind (arith, nat_tests)

  -- a whole day has the minutes of its windows
  pub day_whole : day_before day 1_440 ≡ (part day 1 - part day 0) + (part day 3 - part day 2)
  unfolding day_right day_before
  day_whole = grind (arith, nat_tests)

-- day k of a week, where it keeps the rules
module _ (table : Table) (k : ℕ) (inside : k < 7) (right : day_right (get_or table k []) ≡ true) where
  open_day : (y : ℕ) → y < 1_440 → is_open table (1_440 * k + y) ≡ day_open (get_or table k []) y
  unfolding is_open
  open_day y q =
      let m : (1_440 * k + y) % 10_080 ≡ 1_440 * k + y = mod-eq_of_lt (omega arith) in
      let d : (1_440 * k + y) / 1_440 ≡ k = omega arith in
      let r : (1_440 * k + y) % 1_440 ≡ y = omega arith in
      rw (m, d, r)

  pub before_day : (y : ℕ) → y ≤ 1_440 → open_before table (1_440 * k + y) ≡ open_before table (1_440 * k) + day_before (get_or table k []) y
  before_day zero q = rw (add-zero, day_none (get_or table k []) right, add-zero)
  before_day (suc y) q =
      rw (← add-one y, ← add_assoc (1_440 * k) y 1, before_more table (1_440 * k + y), open_day y (omega arith), before_day y (omega arith), day_step (get_or table k []) right y)
      (omega arith)

  -- a whole day more
  pub before_next : open_before table (1_440 * (k + 1)) ≡ open_before table (1_440 * k) + day_before (get_or table k []) 1_440
  before_next =
      let e : 1_440 * (k + 1) ≡ 1_440 * k + 1_440 = omega arith in
      rw e (before_day 1_440 (omega arith))

  -- the open minute of the day with n open ones before it there
  pub week_minute : (n left y : ℕ) → left + open_before table (1_440 * k) ≡ n → IsDayMinute (get_or table k []) left y → IsWeekMinute table n (1_440 * k + y)
  week_minute n left y e d =
      record {
        inside = omega (arith, d.inside);
        opens = open_day y d.inside ∙ d.opens;
        count = before_day y (omega (arith, d.inside)) ∙ omega (arith, d.count);
      }
