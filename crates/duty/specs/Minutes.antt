-- Document 02, Req 11: "Duty minutes number the open minutes in order; duty minute 0 is the first open minute from calendar minute 0 on. Give
-- the calendar minute of a duty minute below 2³², and the duty minute of an open calendar minute below 2³²"; "27 .. first; 28 for a
-- closed calendar minute, after it". `calendar_of_duty` and `duty_of_calendar` of the demands' page say of both, without a search, which
-- minutes belong together.
use Rattle.std.specs.Prelude.{ℕ, zero, suc, ◌+◌, ◌*◌, List, [], ◌∷◌, cond, eqb, length, get_or, Result, Ok, Err}
use Rattle.numbers.specs.Numbers.{first}
use Rattle.spec.specs.Limits.{if_none}
use Rattle.duty.specs.Weeks.{Table, is_open, open_before, table_number}

-- the calendar minute of duty minute d: "the first open minute from calendar minute 0 on", then each time the next. It comes within a week.
unfoldable pub calendar_minute : Table → ℕ → ℕ
calendar_minute table zero = first (is_open table) 10_080 0
calendar_minute table (suc d) = first (is_open table) 10_080 (calendar_minute table d + 1)

-- "the calendar minute of a duty minute"
unfoldable pub calendar_of : Table → ℕ → Result ℕ ℕ
calendar_of table d = if_none (table_number table) (Ok (calendar_minute table d)) Err

-- "the duty minute of an open calendar minute": so many open ones lie before it
unfoldable pub duty_of : Table → ℕ → Result ℕ ℕ
duty_of table m = if_none (table_number table) (cond (is_open table m) (Ok (open_before table m)) (Err 28)) Err

-- The table of a list of numbers, as C hands it in: 28, day by day. For any other count of them a table with no window stands, which opens no
-- minute and so gets 27.
abbrev pub day_of : List ℕ → ℕ → List ℕ
day_of l k = get_or l (4 * k) 0 ∷ get_or l (4 * k + 1) 0 ∷ get_or l (4 * k + 2) 0 ∷ get_or l (4 * k + 3) 0 ∷ []

abbrev pub week_of : List ℕ → Table
week_of l = day_of l 0 ∷ day_of l 1 ∷ day_of l 2 ∷ day_of l 3 ∷ day_of l 4 ∷ day_of l 5 ∷ day_of l 6 ∷ []

unfoldable pub table_of : List ℕ → Table
table_of l = week_of (cond (eqb (length l) 28) l [])
