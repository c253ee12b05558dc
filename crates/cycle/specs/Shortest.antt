-- Document 02, Req 14: "For a cycle that gets 15 from the check with J = 0: the fewest reports in a row of the endless run whose first and
-- last are less than R minutes apart and which hold more than B. For 16: the fewest reports lying between two reports more than P minutes
-- apart and holding less than L; there may be none between. Give the first report's number (for 16, that of the report just before them)
-- and how many there are. Every other run that shows it has at least as many; of equals take the lowest number. A cycle with another answer
-- from this check gets just that answer."
use Rattle.std.specs.Prelude.{ℕ, ◌+◌, ◌-◌, ◌≤◌, ◌<◌, ◌≡◌, Bool, true, cond, ◌&&◌, eqb, leb, ltb, List, length, Option, None, Some}
use Rattle.numbers.specs.Numbers.{first}
use Rattle.spec.specs.declared.Rate.{Rate}
use Rattle.spec.specs.declared.Spec.{Spec}
use Rattle.pairs.specs.declared.Pair.{Pair}
use Rattle.schedule.specs.Schedules.{Schedule, sum, minute}
use Rattle.cycle.specs.declared.Row.{Row}
use Rattle.cycle.specs.Cycles.{cycle_run}
use Rattle.cycle.specs.Check.{check_number}

-- what n reports in a row hold, from report i on
abbrev pub records_in : Schedule → (i n : ℕ) → ℕ
records_in s i n = sum (λ j. s.size (i + j)) n

-- The n reports from report i on show a 15: they "hold more than B", and the "first and last", report i and report i + (n - 1), "are less than R
-- minutes apart". (0 reports hold nothing, so n is not 0.)
unfoldable pub shows_full : Rate → Schedule → (i n : ℕ) → Bool
shows_full x s i n = ltb x.records (records_in s i n) && ltb (minute s (i + (n - 1))) (minute s i + x.minutes)

-- The n reports after report i show a 16: they are those "lying between two reports more than P minutes apart", report i and report i + (n + 1),
-- "and holding less than L". "There may be none between": n may be 0.
unfoldable pub shows_thin : Rate → Schedule → (i n : ℕ) → Bool
shows_thin x s i n = ltb (minute s i + x.minutes) (minute s (i + (n + 1))) && ltb (records_in s (i + 1) n) x.records

-- the lowest of the first c numbers with which n reports show it; c where none does
abbrev pub lowest : (ℕ → ℕ → Bool) → (c n : ℕ) → ℕ
lowest shows c n = first (λ i. shows i n) c 0

-- "the fewest reports" that show it, m at most, and "of equals take the lowest number"
unfoldable pub shortest : (ℕ → ℕ → Bool) → (c m : ℕ) → Option Row
shortest shows c m =
    let n = first (λ n. ltb (lowest shows c n) c) (m + 1) 0 in
    cond (leb n m) (Some (record { first = lowest shows c n; reports = n })) None

-- The endless run repeats with the round, so the numbers of one round are all; and no gap is 0, so the fewest reports are not more than the minutes.
-- `shown_15` and `shown_16` of the demands' page say that of all rows in the endless run what is found there is the shortest.
unfoldable pub shortest_full : Option Rate → List Pair → Option Row
shortest_full None ps = None
shortest_full (Some x) ps = shortest (shows_full x (cycle_run ps)) (length ps) x.minutes

unfoldable pub shortest_thin : Option Rate → List Pair → Option Row
shortest_thin None ps = None
shortest_thin (Some x) ps = shortest (shows_thin x (cycle_run ps)) (length ps) x.minutes

-- With 15 and 16 a row is given; "a cycle with another answer .. gets just that answer". "The check with J = 0" is this one: `on_time` of the
-- demands' page.
unfoldable pub shortest_stretch : Spec → List Pair → Option Row
shortest_stretch spec ps =
    let n = check_number spec ps in
    cond (eqb n 15) (shortest_full spec.supply ps) (cond (eqb n 16) (shortest_thin spec.demand ps) None)

-- The row shows it; "every other run that shows it", anywhere in the endless run, "has at least as many" reports, and none with as many a lower
-- number; its number is one of the first c.
pub record IsShortest (shows : ℕ → ℕ → Bool) (c : ℕ) (row : Row) : Type 0 where
  pub shown : shows row.first row.reports ≡ true
  pub fewest : (i n : ℕ) → shows i n ≡ true → row.reports ≤ n
  pub lowest_one : (i : ℕ) → shows i row.reports ≡ true → row.first ≤ i
  pub inside : row.first < c

-- the rate is there, and its shortest row in the cycle's endless run is what is given
abbrev pub IsGiven : (Rate → Schedule → ℕ → ℕ → Bool) → Option Rate → List Pair → Option Row → Type 0
IsGiven shows rate ps given =
    (x : Rate) × ((row : Row) × ((rate ≡ Some x) × ((given ≡ Some row) × IsShortest (shows x (cycle_run ps)) (length ps) row)))
