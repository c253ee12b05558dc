-- While i pairs are laid, the words hold them in front.
use mathlib.Core.Path.{◌≡◌}
use Rattle.pairs.proofs.Unpacked.{laid}
use Rattle.pairs.proofs.unpack.Given as goal

abbrev pub invariant-loop-i : goal.invariant-loop-i
invariant-loop-i l = l.words ≡ laid l.pairs l.initial.words l.i
