-- Each turn lays one pair more.
use native.Mathlib.Omega.{arith}
use Rattle.pairs.proofs.Unpacked.{laid_next}
use Rattle.pairs.proofs.unpack.Goals as goal

pub loop-i-preserved : goal.loop-i-preserved
loop-i-preserved c = rw c.loop-i.invariant (laid_next c.args.pairs.now c.args.words.now c.loop-i.i (omega arith) (omega arith))
