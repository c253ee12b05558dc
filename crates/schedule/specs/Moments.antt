-- Document 02, Req 05, over any endless schedule: "the number of the last report at or before it, and the nearest report, the earlier of
-- two equally near. Also how many reports, and how many records, lie from minute a up to but not including b". Where no gap is 0, report i
-- is at minute i or later, so only the first reports need be looked at; `last_report_lem` and `nearest_report_lem` of the demands' page say that
-- what is found there is the last, and the nearest, of all.
use Rattle.std.specs.Prelude.{ℕ, zero, suc, ◌+◌, ◌-◌, ◌≤◌, ◌<◌, Bool, true, false, cond, leb, ltb}
use Rattle.schedule.specs.Schedules.{Schedule, minute, stretch}

-- the greatest of 0, .., n that passes; 0 where none does
unfoldable pub greatest : (ℕ → Bool) → ℕ → ℕ
greatest passes zero = 0
greatest passes (suc n) = elim (passes (suc n)) [ true ↦ suc n | false ↦ greatest passes n ]

-- "the number of the last report at or before it": the greatest i whose minute is at most m
unfoldable pub last_report : Schedule → ℕ → ℕ
last_report s m = greatest (λ i. leb (minute s i) m) m

-- it is at or before the minute, and no greater number is
pub record IsLast (s : Schedule) (m i : ℕ) : Type 0 where
  pub at_or_before : minute s i ≤ m
  pub greatest_one : (j : ℕ) → minute s j ≤ m → j ≤ i

-- the minutes between two
abbrev pub distance : ℕ → ℕ → ℕ
distance a b = a - b + (b - a)

-- the first of 0, .., n at which f is least: a later one only where it is smaller there
unfoldable pub first_least : (ℕ → ℕ) → ℕ → ℕ
first_least f zero = 0
first_least f (suc n) = cond (ltb (f (suc n)) (f (first_least f n))) (suc n) (first_least f n)

-- "the nearest report, the earlier of two equally near"
unfoldable pub nearest_report : Schedule → ℕ → ℕ
nearest_report s m = first_least (λ i. distance (minute s i) m) (m + 1)

-- no report is nearer, and none as near is before it
pub record IsNearest (s : Schedule) (m i : ℕ) : Type 0 where
  pub nearest : (j : ℕ) → distance (minute s i) m ≤ distance (minute s j) m
  pub first : (j : ℕ) → j < i → distance (minute s i) m < distance (minute s j) m

-- the schedule with each report counted as one
abbrev pub counted : Schedule → Schedule
counted s = record { size = λ i. 1; gap = s.gap }

-- "how many reports, and how many records, lie from minute a up to but not including b": what the stretch of those minutes holds
unfoldable pub reports_from : Schedule → ℕ → ℕ → ℕ
reports_from s a b = stretch (counted s) a (b - a)

unfoldable pub records_from : Schedule → ℕ → ℕ → ℕ
records_from s a b = stretch s a (b - a)
