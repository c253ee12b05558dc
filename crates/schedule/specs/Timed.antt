-- Reports at given minutes. Document 01, "A stretch of n minutes from a (a at least 0) is minutes a to a + n − 1. It holds, summed, the
-- sizes of the reports at those minutes", where the minutes are not those of a schedule: document 02, Req 09, "The delayed minutes stand
-- for the planned ones in every stretch from minute 0 on." Report 0 need not be at minute 0.
use Rattle.std.specs.Prelude.{ℕ, ◌+◌, ◌-◌, cond}
use Rattle.schedule.specs.Schedules.{Schedule, sum, minute, in_stretch}

-- report i has `size i` records and is at minute `minute i`
pub record Timed : Type 0 where
  pub size : ℕ → ℕ
  pub minute : ℕ → ℕ

-- what report i adds to the stretch of w minutes from a: its size where its minute is one of them
unfoldable pub timed_share : Timed → ℕ → ℕ → ℕ → ℕ
timed_share t a w i = cond (in_stretch a w (t.minute i)) (t.size i) 0

-- What the stretch of w minutes from a holds. Where report i is at minute i or later, as in every run with no gap 0, also a delayed one,
-- every report of those minutes is among the first a + w; `timed_sum` of the demands' page says that no more need be looked at.
unfoldable pub timed_stretch : Timed → ℕ → ℕ → ℕ
timed_stretch t a w = sum (timed_share t a w) (a + w)

-- the minutes from report i to report i + 1: 0 where that comes no later, and "a gap of 0 is below every range"
abbrev pub timed_gap : Timed → ℕ → ℕ
timed_gap t i = t.minute (i + 1) - t.minute i

-- The reports of a schedule, each at its own minute: their stretches are the schedule's, and so are their rules (`own_minutes` and `own_rules`
-- of the demands' page).
abbrev pub planned : Schedule → Timed
planned s = record { size = s.size; minute = minute s }
