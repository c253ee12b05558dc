-- What the inner functions of the check and of the margins say of one another: a window of neighbouring reports that moves over the endless run. None of it
-- stands in the contract of a function that others call.
use Rattle.std.specs.Prelude.{ℕ, ◌+◌, ◌-◌, ◌*◌, ◌≤◌, ◌<◌, ◌≡◌, Bool, false, cond, List, map, leb, length, get_or, Option, None, Some}
use Rattle.numbers.specs.Numbers.{all}
use Rattle.spec.specs.declared.Rate.{Rate}
use Rattle.spec.specs.declared.Spec.{Spec}
use Rattle.spec.specs.Limits.{gap_allowed}
use Rattle.pairs.specs.declared.Pair.{Pair}
use Rattle.pairs.specs.Pairs.{pairs_of}
use Rattle.schedule.specs.Schedules.{Schedule, sum, minute, stretch}
use Rattle.cycle.specs.declared.windows.Measure.{Measure}
use Rattle.cycle.specs.declared.windows.Measure.TheVariants.{Minutes, Records}
use Rattle.cycle.specs.declared.windows.Parts.{Parts}
use Rattle.cycle.specs.declared.windows.Round.{Round}
use Rattle.cycle.specs.declared.stretches.Look.{Look}
use Rattle.cycle.specs.declared.stretches.Side.{Side}
use Rattle.cycle.specs.declared.stretches.Side.TheVariants.{Fullest, Thinnest}
use Rattle.cycle.specs.declared.stretches.Walk.{Walk}
use Rattle.cycle.specs.declared.margins.Margin.{Margin}
use Rattle.cycle.specs.declared.windows.Window.{Window}
use Rattle.cycle.specs.Cycles.{cycle_run, round, round_records}
use Rattle.cycle.specs.Margins.{begins, Within}

-- How many minutes from a report on are walked over to see a stretch: the fullest start with the report, the thinnest one minute after it. And what
-- the stretch holds of their records: the thinnest all but the report's.
abbrev pub walked : Side → ℕ → ℕ
walked Fullest minutes = minutes
walked Thinnest minutes = minutes + 1

abbrev pub seen : Side → (records size : ℕ) → ℕ
seen Fullest records size = records
seen Thinnest records size = records - size

-- that is a minute at least
abbrev pub SomeMinutes : Side → Option Rate → Type 0
SomeMinutes side None = Unit {0}
SomeMinutes side (Some x) = 1 ≤ walked side x.minutes

-- What 12 to 16 can be judged by: no gap that is allowed is 0, and R minutes are a minute at least. An accepted specification is of this
-- kind, and so is what planned minutes must meet.
pub record Judges (spec : Spec) : Type 0 where
  pub gaps : gap_allowed spec 0 ≡ false
  pub supply : SomeMinutes Fullest spec.supply

-- the endless run of the pairs that a flat list holds
abbrev pub run_of : List ℕ → Schedule
run_of l = cycle_run (pairs_of l)

-- where in a pair the number stands that a window goes by
abbrev pub place_of : Measure → ℕ
place_of Minutes = 0
place_of Records = 1

-- the pairs of a flat list that is cut into two numbers each, gap and size, or seen by its records size and gap, and their endless run
abbrev pub pair_in : Measure → List ℕ → Pair
pair_in by x = record { gap = get_or x (place_of by) 0; size = get_or x (1 - place_of by) 0 }

abbrev pub pairs_in : Measure → List (List ℕ) → List Pair
pairs_in by xs = map (pair_in by) xs

abbrev pub run_in : Measure → List (List ℕ) → Schedule
run_in by xs = cycle_run (pairs_in by xs)

-- 1 to 512 pairs, none with a gap of 0
pub record Walkable (ps : List Pair) : Type 0 where
  pub some : 1 ≤ length ps
  pub few : length ps ≤ 512
  pub later : (i : ℕ) → 1 ≤ (cycle_run ps).gap i

-- x is report i of the schedule
pub record IsReport (s : Schedule) (i : ℕ) (x : Pair) : Type 0 where
  pub gap : x.gap ≡ s.gap i
  pub size : x.size ≡ s.size i

-- x is the minutes and the records of one round
pub record IsRound (ps : List Pair) (x : Round) : Type 0 where
  pub minutes : x.minutes ≡ round ps
  pub records : x.records ≡ round_records ps
  pub minutes_fit : x.minutes ≤ 65535 * 512
  pub records_fit : x.records ≤ 65535 * 512

-- x is m minutes in two parts: whole rounds, with what they hold, and from 1 minute to one round left over
pub record IsParts (ps : List Pair) (m : ℕ) (x : Parts) : Type 0 where
  pub splits : m ≡ x.rounds * round ps + x.rest
  pub records : x.records ≡ x.rounds * round_records ps
  pub some : 1 ≤ x.rest
  pub short : x.rest ≤ round ps
  pub rounds_fit : x.rounds ≤ 65535
  pub records_fit : x.records ≤ 65535 * (65535 * 512)

-- The window spans the reports from `first` up to but not including `past`: the minutes between those two, and the records that it
-- holds. None of the reports before `past` is v minutes or more after report `first`.
pub record Spans (s : Schedule) (v : ℕ) (w : Window) : Type 0 where
  pub forward : w.first ≤ w.past
  pub minutes : minute s w.past ≡ minute s w.first + w.minutes
  pub records : sum s.size w.past ≡ sum s.size w.first + w.records
  pub inside : (i : ℕ) → i < w.past → minute s i < minute s w.first + v
  pub minutes_fit : w.minutes ≤ 65535 * w.past
  pub records_fit : w.records ≤ 65535 * w.past

-- the window with one report more at its end, with its first report left out
abbrev pub with_report : Window → Pair → Window
with_report w x = record { first = w.first; past = w.past + 1; minutes = w.minutes + x.gap; records = w.records + x.size }

abbrev pub without_report : Window → Pair → Window
without_report w x = record { first = w.first + 1; past = w.past; minutes = w.minutes - x.gap; records = w.records - x.size }

-- so many records go no farther than others
abbrev pub within : Side → (records limit : ℕ) → Bool
within Fullest records limit = leb records limit
within Thinnest records limit = leb limit records

-- the parts of a walk are those of the minutes that it goes over
abbrev pub IsWalk : List Pair → Walk → Type 0
IsWalk ps walk = IsParts ps (walked walk.side walk.minutes) walk.parts

-- what is seen of the stretch at report i, and the window that starts with the next report
pub record Looks (s : Schedule) (walk : Walk) (i : ℕ) (look : Look) : Type 0 where
  pub records : look.records ≡ stretch s (begins walk.side s i) walk.minutes
  pub first : look.next.first ≡ i + 1
  pub spans : Spans s walk.parts.rest look.next

-- the stretches, one to each report of one round, are within what the rate asks
unfoldable pub starts_pass : Side → Rate → List Pair → Bool
starts_pass side x ps = all (λ i. within side (stretch (cycle_run ps) (begins side (cycle_run ps) i) x.minutes) x.records) (length ps)

-- the new margin, where it is farther out
abbrev pub farther : Side → Option Margin → Margin → Option Margin
farther side None new = Some new
farther side (Some best) new = cond (within side new.records best.records) (Some best) (Some new)

-- of the stretches of so many minutes at the first k reports: the farthest out and, of these, the lowest number
pub record Farthest (side : Side) (s : Schedule) (minutes k : ℕ) (m : Margin) : Type 0 where
  pub holds : stretch s (begins side s m.report) minutes ≡ m.records
  pub passed : m.report < k
  pub farthest : (i : ℕ) → i < k → Within side (stretch s (begins side s i) minutes) m.records
  pub lowest_one : (i : ℕ) → i < k → stretch s (begins side s i) minutes ≡ m.records → m.report ≤ i

-- or that there are none yet
abbrev pub FarthestOf : Side → Schedule → (minutes k : ℕ) → Option Margin → Type 0
FarthestOf side s minutes k None = k ≡ 0
FarthestOf side s minutes k (Some m) = Farthest side s minutes k m
