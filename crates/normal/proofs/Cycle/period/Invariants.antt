-- No number below n is the period.
use Prim.Native.Nat.{◌≤◌}
use Rattle.normal.specs.Normal.{period}
use Rattle.normal.proofs.Cycle.period.Given as goal

abbrev pub invariant-loop-n : goal.invariant-loop-n
invariant-loop-n l = l.n ≤ period l.self.pairs.now
