-- Document 02, Req 09, "however each report is delayed, by any number of minutes from 0 to J of its own. The delayed minutes stand for the
-- planned ones in every stretch from minute 0 on."
use Rattle.std.specs.Prelude.{ℕ, ◌+◌, ◌≤◌}
use Rattle.schedule.specs.Schedules.{Schedule, minute}
use Rattle.schedule.specs.Timed.{Timed}

-- the reports of a schedule, each so many minutes after its own
abbrev pub delayed : Schedule → (ℕ → ℕ) → Timed
delayed s delay = record { size = s.size; minute = λ i. minute s i + delay i }

-- a choice of delays: for each report a number of minutes "from 0 to J of its own"
abbrev pub UpTo : ℕ → (ℕ → ℕ) → Type 0
UpTo lateness delay = (i : ℕ) → delay i ≤ lateness

-- what holds "however each report is delayed", and what holds "over some choice of delays"
abbrev pub EveryDelay : ℕ → Schedule → (Timed → Type 0) → Type 0
EveryDelay lateness s Holds = (delay : ℕ → ℕ) → UpTo lateness delay → Holds (delayed s delay)

abbrev pub SomeDelay : ℕ → Schedule → (Timed → Type 0) → Type 0
SomeDelay lateness s Holds = (delay : ℕ → ℕ) × (UpTo lateness delay × Holds (delayed s delay))
