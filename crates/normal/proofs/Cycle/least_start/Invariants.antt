-- The turn that comes first begins at the first of the two starts, or at none before the second, and the pairs from both on agree so far. With each
-- step the starts and the agreement move on together.
use Prim.Native.Nat.{◌-◌, ◌*◌, ◌+◌}
use Rattle.normal.specs.Search.{Searches}
use Rattle.normal.proofs.Cycle.least_start.Given as goal

abbrev pub invariant-loop-s : goal.invariant-loop-s
invariant-loop-s l = Searches l.self.pairs.now l.s

abbrev pub decreases-loop-s : goal.decreases-loop-s
decreases-loop-s l = 3 * l.n - (l.s.first + l.s.second + l.s.agreed)
