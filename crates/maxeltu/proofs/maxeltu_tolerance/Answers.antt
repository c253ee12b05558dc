-- The tolerance is of the pairs that the words hold, and more than 512 are answered as none are.
use Rattle.tolerance.proofs.Tolerances.{fit_tolerance}
use Rattle.answers.proofs.Places.{value_number, value_place}
use Rattle.maxeltu.specs.Calls.{tolerance_call}
use Rattle.maxeltu.proofs.LocalWords.{unpacked}
use Rattle.maxeltu.proofs.maxeltu_tolerance.Goals as goal

pub returns : goal.returns
unfolding tolerance_call
returns c =
    let same = unpacked c.args.pairs.now _ _ c.unpack-used.ensures in
    rw (← c.in-Ok.ensures, ← fit_tolerance c.in-Ok.s c.args.pairs.now, ← same, ← c.tolerance.ensures)
    (rw c.value_answer.ensures.number (value_number _), rw c.value_answer.ensures.place (value_place _ _))
