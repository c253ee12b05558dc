-- What one step of the search for a gap gives: the gap to try after one that has failed.
use Rattle.std.specs.Prelude.{ℕ, ◌+◌, ◌/◌, Option, None, Some}
use Rattle.std.specs.declared.num.NonZeroU16.{NonZeroU16}
use Rattle.std.specs.Int.NonZero.{non_zero_u16_get}
use Rattle.spec.specs.declared.Rate.{Rate}

-- the gap that the code gives, or 0 where it gives none, as the definitions say
abbrev pub gap_number : Option NonZeroU16 → ℕ
gap_number None = 0
gap_number (Some s) = non_zero_u16_get s

-- The gap to try after s has failed: the largest with more than ⌊P/s⌋ reports in P minutes. The gaps between have as many
-- reports as s in P minutes and no fewer in R, so they fail too. With demand absent that is true of every shorter gap.
unfoldable pub next_gap : Option Rate → ℕ → ℕ
next_gap None s = 0
next_gap (Some x) s = x.minutes / (x.minutes / s + 1)
