-- The margins of a cycle, of the request "How much leeway a cycle has" (beyond document 02): "for a cycle whose count, gaps and sizes are right
-- (else 1 to 4, 24, 12, 13, 14; 15 and 16 are not given here): the most records that any R minutes hold, with the lowest number of a report
-- that begins such minutes; the least that any P minutes hold, with the lowest number of a report just after which they begin; both
-- numbers below the count. An absent rate leaves its two places as they were." `margins_right` of the demands' page says that this is so of
-- every start in the endless run.
use Rattle.std.specs.Prelude.{ℕ, zero, suc, ◌+◌, ◌<◌, ◌≤◌, ◌≡◌, max, min, List, length, eqb, Option, None, Some, Result, Ok, Err}
use Rattle.numbers.specs.Numbers.{first}
use Rattle.spec.specs.declared.Rate.{Rate}
use Rattle.spec.specs.declared.Spec.{Spec}
use Rattle.spec.specs.Limits.{if_none, if_accepted}
use Rattle.pairs.specs.declared.Pair.{Pair}
use Rattle.schedule.specs.Schedules.{Schedule, minute, stretch}
use Rattle.cycle.specs.declared.margins.Margin.{Margin}
use Rattle.cycle.specs.declared.margins.Margins.{Margins}
use Rattle.cycle.specs.declared.stretches.Side.{Side}
use Rattle.cycle.specs.declared.stretches.Side.TheVariants.{Fullest, Thinnest}
use Rattle.cycle.specs.Cycles.{cycle_run, round}
use Rattle.cycle.specs.Check.{shape_number}

-- "the most records" of the fullest stretches, "the least" of the thinnest
abbrev pub farther_of : Side → ℕ → ℕ → ℕ
farther_of Fullest = max
farther_of Thinnest = min

-- of f 0, .., f (n - 1), where n is not 0, the greatest or the least
unfoldable pub farthest_of : Side → (ℕ → ℕ) → ℕ → ℕ
farthest_of side f zero = f 0
farthest_of side f (suc n) = farther_of side (farthest_of side f n) (f n)

-- where the minutes start that report i "begins", and those that begin "just after" it
abbrev pub begins : Side → Schedule → ℕ → ℕ
begins Fullest s i = minute s i
begins Thinnest s i = minute s i + 1

-- The most, or the least, that any so many minutes hold: the endless run repeats with the round, so the starts of one round are all. And "the lowest
-- number of a report" at which such minutes begin.
unfoldable pub margin : Side → (minutes : ℕ) → List Pair → Margin
margin side minutes ps =
    let s = cycle_run ps in
    let records = farthest_of side (λ a. stretch s a minutes) (round ps) in
    record { records = records; report = first (λ i. eqb (stretch s (begins side s i) minutes) records) (length ps) 0 }

-- "An absent rate" has none.
unfoldable pub margin_of : Side → Option Rate → List Pair → Option Margin
margin_of side None ps = None
margin_of side (Some x) ps = Some (margin side x.minutes ps)

unfoldable pub margins : Spec → List Pair → Margins
margins spec ps = record { fullest = margin_of Fullest spec.supply ps; thinnest = margin_of Thinnest spec.demand ps }

-- 3, 4 and 24, then 12, 13 and 14 (1 and 2 are those of reading a specification)
unfoldable pub margins_of : Spec → List Pair → Result Margins ℕ
margins_of spec ps = if_accepted spec (if_none (shape_number spec ps) (Ok (margins spec ps)) Err) Err

-- records that go no farther than others: no more than the most, no fewer than the least; and that do go farther
abbrev pub Within : Side → (records limit : ℕ) → Type 0
Within Fullest records limit = records ≤ limit
Within Thinnest records limit = limit ≤ records

abbrev pub Beyond : Side → (records limit : ℕ) → Type 0
Beyond Fullest records limit = limit < records
Beyond Thinnest records limit = records < limit

-- "No stretch at any start holds more, none less, and the named ones hold just that"; the number is the lowest of all, and below the count c.
pub record IsMargin (side : Side) (s : Schedule) (c minutes : ℕ) (m : Margin) : Type 0 where
  pub farthest : (a : ℕ) → Within side (stretch s a minutes) m.records
  pub holds : stretch s (begins side s m.report) minutes ≡ m.records
  pub lowest_one : (i : ℕ) → stretch s (begins side s i) minutes ≡ m.records → m.report ≤ i
  pub inside : m.report < c

-- so it is with a rate that is there, and without one there is no margin
abbrev pub IsMarginOf : Side → Schedule → (c : ℕ) → Option Rate → Option Margin → Type 0
IsMarginOf side s c None None = Unit {0}
IsMarginOf side s c None (Some m) = ⊥
IsMarginOf side s c (Some x) None = ⊥
IsMarginOf side s c (Some x) (Some m) = IsMargin side s c x.minutes m

-- the margin is past what the rate asks
abbrev pub Past : Side → Option Rate → Option Margin → Type 0
Past side (Some x) (Some m) = Beyond side m.records x.records
Past side (Some x) None = ⊥
Past side None m = ⊥

-- "the most records that any R minutes hold" and "the least that any P minutes hold"; "the most is above B", "the least is below L"
abbrev pub IsMost : Schedule → (c : ℕ) → Option Rate → Option Margin → Type 0
IsMost = IsMarginOf Fullest

abbrev pub IsLeast : Schedule → (c : ℕ) → Option Rate → Option Margin → Type 0
IsLeast = IsMarginOf Thinnest

abbrev pub AboveB : Option Rate → Option Margin → Type 0
AboveB = Past Fullest

abbrev pub BelowL : Option Rate → Option Margin → Type 0
BelowL = Past Thinnest
