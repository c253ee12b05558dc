-- The invariant: the largest gap of the range at which some number of pairs will do is the largest from the next one down. After one at which
-- none will, none will at those that `next_gap` jumps over either (proofs/Search.antt). The gap falls with each turn.
use Prim.Native.Nat.{◌≤◌}
use mathlib.Core.Path.{◌≡◌}
use Rattle.even.specs.Jump.{gap_number}
use Rattle.even.specs.Search.{largest_in}
use Rattle.even.proofs.Search.{left_from}
use Rattle.boxplan.specs.BoxPlan.{can_load}
use Rattle.boxplan.proofs.plan_within.Given as goal

abbrev pub invariant-loop-next : goal.invariant-loop-next
invariant-loop-next l = (gap_number l.next ≤ l.hi) × (left_from (can_load l.spec) l.lo l.hi (gap_number l.next) ≡ largest_in (can_load l.spec) l.lo l.hi)

abbrev pub decreases-loop-next : goal.decreases-loop-next
decreases-loop-next l = gap_number l.next
