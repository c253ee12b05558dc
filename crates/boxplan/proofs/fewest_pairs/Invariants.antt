-- No fewer pairs than q will do.
use Prim.Native.Nat.{◌≤◌}
use Rattle.std.specs.Int.NonZero.{non_zero_u16_get}
use Rattle.numbers.specs.Numbers.{first}
use Rattle.boxplan.specs.BoxPlan.{pairs_fit}
use Rattle.boxplan.proofs.fewest_pairs.Given as goal

abbrev pub invariant-loop-q : goal.invariant-loop-q
invariant-loop-q l = l.q ≤ first (pairs_fit l.spec (non_zero_u16_get l.m) l.n) 512 1
