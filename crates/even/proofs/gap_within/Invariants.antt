-- The invariant: the largest gap of the range that fits is the largest from the next one down. A gap that fits ends the search; after one
-- that fails, the gaps that `next_gap` jumps over fail too (proofs/Jumps.antt). The gap falls with each turn.
use Prim.Native.Nat.{◌≤◌}
use mathlib.Core.Path.{◌≡◌}
use Rattle.even.specs.Even.{fits}
use Rattle.even.specs.Jump.{gap_number}
use Rattle.even.specs.Search.{largest_in}
use Rattle.even.proofs.Search.{left_from}
use Rattle.even.proofs.gap_within.Given as goal

abbrev pub invariant-loop-next : goal.invariant-loop-next
invariant-loop-next l = (gap_number l.next ≤ l.hi) × (left_from (fits l.spec) l.lo l.hi (gap_number l.next) ≡ largest_in (fits l.spec) l.lo l.hi)

abbrev pub decreases-loop-next : goal.decreases-loop-next
decreases-loop-next l = gap_number l.next
