-- While i pairs are packed, the lent list holds them in front.
use mathlib.Core.Path.{◌≡◌}
use Rattle.pairs.proofs.Packed.{packed}
use Rattle.pairs.proofs.pack.Given as goal

abbrev pub invariant-loop-i : goal.invariant-loop-i
invariant-loop-i l = l.places ≡ packed l.words l.initial.places l.i
