-- What the inner functions of the search say of one another: rows of both kinds in one form, and the shortest of those from the starts that the
-- window has passed. None of it stands in the contract of a function that others call.
use Rattle.std.specs.Prelude.{ℕ, ◌+◌, ◌-◌, ◌*◌, ◌<◌, ◌≤◌, ◌≡◌, Bool, true, cond, ◌&&◌, leb, ltb, Option, None, Some}
use Rattle.schedule.specs.Schedules.{Schedule, sum}
use Rattle.cycle.specs.declared.Row.{Row}
use Rattle.cycle.specs.declared.windows.Measure.{Measure}
use Rattle.cycle.specs.declared.windows.Measure.TheVariants.{Minutes, Records}
use Rattle.cycle.specs.declared.windows.Window.{Window}
use Rattle.cycle.specs.Shortest.{records_in, IsShortest}

-- the minutes from report i to the one n reports later
abbrev pub minutes_in : Schedule → (i n : ℕ) → ℕ
minutes_in s i n = sum (λ j. s.gap (i + j)) n

-- By minutes a row's first report comes before its minutes, so that its records are not counted; by records the last one's gap comes after its
-- records, so that its minutes are not.
abbrev pub skipped : Measure → ℕ
skipped Minutes = 1
skipped Records = 0

-- that report: the first by minutes, the last by records
abbrev pub left_out : Measure → Window → ℕ
left_out Minutes w = w.first
left_out Records w = w.past - 1

-- The n reports from report i on go over more than x of what the window goes by; and those that the other bound counts, all but that one, have less
-- than y of the other.
unfoldable pub row_shows : Measure → Schedule → (x y i n : ℕ) → Bool
row_shows by s x y i n = ltb x (minutes_in s i n) && ltb (records_in s (i + skipped by) (n - 1)) y

-- the row of a window and of some rounds of c reports
abbrev pub row_of : (c rounds : ℕ) → Window → Row
row_of c rounds w = record { first = w.first; reports = rounds * c + (w.past - w.first) }

-- the new row, where it is shorter
abbrev pub shorter : Option Row → Row → Option Row
shorter None row = Some row
shorter (Some best) row = cond (leb best.reports row.reports) (Some best) (Some row)

-- the same without its first report, which lies before those that show a 16
abbrev pub without_first : Row → Row
without_first row = record { first = row.first; reports = row.reports - 1 }

-- of the rows from the first k starts: one that shows it with the fewest reports and, of these, the lowest number
pub record Best (shows : ℕ → ℕ → Bool) (k : ℕ) (row : Row) : Type 0 where
  pub shown : shows row.first row.reports ≡ true
  pub passed : row.first < k
  pub fewest : (i : ℕ) → i < k → (n : ℕ) → shows i n ≡ true → row.reports ≤ n
  pub lowest_one : (i : ℕ) → i < k → shows i row.reports ≡ true → row.first ≤ i

-- such a row, or that none of them shows it
abbrev pub BestBefore : (ℕ → ℕ → Bool) → ℕ → Option Row → Type 0
BestBefore shows k None = (i : ℕ) → i < k → (n : ℕ) → ¬ (shows i n ≡ true)
BestBefore shows k (Some row) = Best shows k row

-- the shortest of all rows, or that none shows it
abbrev pub Found : (ℕ → ℕ → Bool) → ℕ → Option Row → Type 0
Found shows c None = (i n : ℕ) → ¬ (shows i n ≡ true)
Found shows c (Some row) = IsShortest shows c row
