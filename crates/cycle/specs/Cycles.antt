-- Document 01, "Cycles": "the gap is that from this report to the next, the last pair's to the first report of the next round";
-- "That of a cycle of c pairs gives report i the size of pair i mod c, counted from 0, and that pair's gap to report i + 1."
use Rattle.std.specs.Prelude.{ℕ, ◌%◌, List, length, get_or}
use Rattle.pairs.specs.declared.Pair.{Pair}
use Rattle.pairs.specs.Pairs.{no_pair}
use Rattle.schedule.specs.Schedules.{Schedule, sum, minute}

-- the gap and the size of pair j
unfoldable pub pair_gap : List Pair → ℕ → ℕ
pair_gap ps j = (get_or ps j no_pair).gap

unfoldable pub pair_size : List Pair → ℕ → ℕ
pair_size ps j = (get_or ps j no_pair).size

-- the endless run of a cycle
unfoldable pub cycle_run : List Pair → Schedule
cycle_run ps = record { size = λ i. pair_size ps (i % length ps); gap = λ i. pair_gap ps (i % length ps) }

-- the minutes of one round: the first report of the next one is at this minute
unfoldable pub round : List Pair → ℕ
round ps = minute (cycle_run ps) (length ps)

-- document 02, Req 04: "the records of a round"
unfoldable pub round_records : List Pair → ℕ
round_records ps = sum (cycle_run ps).size (length ps)
