-- Document 01, "The four rules: each size and each gap is in range; each stretch of R minutes holds at most B records; each of
-- P minutes holds at least L. An absent rate drops its rule." Stretches start at every minute from 0 on. The rules are stated once, of
-- reports with these sizes and gaps, whose stretch of w minutes from a holds `held a w`: those of a schedule, and those at given minutes.
use Rattle.std.specs.Prelude.{ℕ, ◌≤◌, ◌<◌, ◌≡◌, ◌⊎◌, true, false, Option, None, Some}
use Rattle.spec.specs.declared.Rate.{Rate}
use Rattle.spec.specs.declared.Spec.{Spec}
use Rattle.spec.specs.Limits.{size_allowed, gap_allowed}
use Rattle.schedule.specs.Schedules.{Schedule, stretch}
use Rattle.schedule.specs.Timed.{Timed, timed_stretch, timed_gap}

-- "each size and each gap is in range"
abbrev pub SizesAllowed : Spec → (ℕ → ℕ) → Type 0
SizesAllowed spec size = (i : ℕ) → size_allowed spec (size i) ≡ true

abbrev pub GapsAllowed : Spec → (ℕ → ℕ) → Type 0
GapsAllowed spec gap = (i : ℕ) → gap_allowed spec (gap i) ≡ true

-- each stretch of R minutes holds at most B records
abbrev pub SupplyKept : Option Rate → (ℕ → ℕ → ℕ) → Type 0
SupplyKept None held = Unit {0}
SupplyKept (Some x) held = (a : ℕ) → held a x.minutes ≤ x.records

-- each stretch of P minutes holds at least L records
abbrev pub DemandMet : Option Rate → (ℕ → ℕ → ℕ) → Type 0
DemandMet None held = Unit {0}
DemandMet (Some x) held = (a : ℕ) → x.records ≤ held a x.minutes

pub record FourRules (spec : Spec) (size gap : ℕ → ℕ) (held : ℕ → ℕ → ℕ) : Type 0 where
  pub sizes : SizesAllowed spec size
  pub gaps : GapsAllowed spec gap
  pub supply : SupplyKept spec.supply held
  pub demand : DemandMet spec.demand held

-- a schedule obeys the four rules, and so do reports at given minutes
abbrev pub Obeys : Spec → Schedule → Type 0
Obeys spec s = FourRules spec s.size s.gap (stretch s)

abbrev pub TimedObeys : Spec → Timed → Type 0
TimedObeys spec t = FourRules spec t.size (timed_gap t) (timed_stretch t)

-- how each rule is broken: some size or some gap is not allowed, some R minutes hold more than B, some P minutes fewer than L
abbrev pub SizeBroken : Spec → (ℕ → ℕ) → Type 0
SizeBroken spec size = (i : ℕ) × (size_allowed spec (size i) ≡ false)

abbrev pub GapBroken : Spec → (ℕ → ℕ) → Type 0
GapBroken spec gap = (i : ℕ) × (gap_allowed spec (gap i) ≡ false)

abbrev pub TooFull : Option Rate → (ℕ → ℕ → ℕ) → Type 0
TooFull None held = ⊥
TooFull (Some x) held = (a : ℕ) × (x.records < held a x.minutes)

abbrev pub TooThin : Option Rate → (ℕ → ℕ → ℕ) → Type 0
TooThin None held = ⊥
TooThin (Some x) held = (a : ℕ) × (held a x.minutes < x.records)

-- a schedule "breaks one of the four rules" (document 02, Req 10)
abbrev pub Breaks : Spec → Schedule → Type 0
Breaks spec s = GapBroken spec s.gap ⊎ (SizeBroken spec s.size ⊎ (TooFull spec.supply (stretch s) ⊎ TooThin spec.demand (stretch s)))
