-- Open minutes by windows: what the inner functions promise one another. They stand in the contract of no public function;
-- proofs/Days.antt says that of a day that keeps the rules they are counts, minute by minute.
use Rattle.std.specs.Prelude.{ℕ, ◌+◌, ◌-◌, ◌<◌, min, ◌≡◌, List, true}
use Rattle.duty.specs.Weeks.{Table, part, day_open, is_open, open_before}

-- the minutes of a window that lie before minute x of its day
abbrev pub window_before : ℕ → ℕ → ℕ → ℕ
window_before opens closes x = min x closes - min x opens

unfoldable pub day_before : List ℕ → ℕ → ℕ
day_before day x = window_before (part day 0) (part day 1) x + window_before (part day 2) (part day 3) x

-- x is the open minute of a day with n open ones before it
pub record IsDayMinute (day : List ℕ) (n x : ℕ) : Type 0 where
  pub inside : x < 1_440
  pub opens : day_open day x ≡ true
  pub count : day_before day x ≡ n

-- x is the open minute of the week with n open ones before it
pub record IsWeekMinute (table : Table) (n x : ℕ) : Type 0 where
  pub inside : x < 10_080
  pub opens : is_open table x ≡ true
  pub count : open_before table x ≡ n
