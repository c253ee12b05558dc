-- Document 02, Req 11: "A week table has seven days from Monday, each with two windows, opening and closing minute, 0 to 1,440. Opening is
-- included, closing is not. Both 0 means no window; otherwise opening is before closing. A second window, where there is one, opens no
-- earlier than the first pair's closing minute. Calendar minute 0 is Monday's start, and the table repeats every week."
use Rattle.std.specs.Prelude.{ℕ, ◌/◌, ◌%◌, ◌≡◌, List, [], Bool, cond, ◌&&◌, ◌||◌, leb, ltb, eqb, get_or}
use Rattle.numbers.specs.Numbers.{all}
use Rattle.schedule.specs.Schedules.{sum}

-- seven days, each with four numbers: opening and closing of its first window, then of its second
abbrev pub Table : Type 0
Table = List (List ℕ)

-- number j of a day's four
abbrev pub part : List ℕ → ℕ → ℕ
part day j = get_or day j 0

-- "Both 0 means no window"
abbrev pub no_window : ℕ → ℕ → Bool
no_window opens closes = eqb opens 0 && eqb closes 0

-- "otherwise opening is before closing"; "0 to 1,440", the opening too, since it is before the closing
abbrev pub window_right : ℕ → ℕ → Bool
window_right opens closes = no_window opens closes || (ltb opens closes && leb closes 1_440)

-- "A second window, where there is one, opens no earlier than the first pair's closing minute", which is 0 where there is no first
unfoldable pub day_right : List ℕ → Bool
day_right day =
    window_right (part day 0) (part day 1)
    && window_right (part day 2) (part day 3)
    && (no_window (part day 2) (part day 3) || leb (part day 1) (part day 2))

-- "Opening is included, closing is not": whether minute x of a day is open
abbrev pub in_window : ℕ → ℕ → ℕ → Bool
in_window opens closes x = leb opens x && ltb x closes

unfoldable pub day_open : List ℕ → ℕ → Bool
day_open day x = in_window (part day 0) (part day 1) x || in_window (part day 2) (part day 3) x

-- "Calendar minute 0 is Monday's start, and the table repeats every week", which has 10,080 minutes, 1,440 to a day
unfoldable pub is_open : Table → ℕ → Bool
is_open table m = day_open (get_or table (m % 10_080 / 1_440) []) (m % 10_080 % 1_440)

-- how many open minutes lie before minute m
unfoldable pub open_before : Table → ℕ → ℕ
open_before table m = sum (λ x. cond (is_open table x) 1 0) m

-- every day keeps the rules
unfoldable pub days_right : Table → Bool
days_right table = all (λ k. day_right (get_or table k [])) 7

-- "27 for a table that breaks these rules or opens no minute"
unfoldable pub table_number : Table → ℕ
table_number table = cond (days_right table && ltb 0 (open_before table 10_080)) 0 27

abbrev pub IsTable : Table → Type 0
IsTable table = table_number table ≡ 0
