-- The check and what shows its refusal are of the pairs that the words hold, and more than 512 are answered as none are.
use Rattle.cycle.proofs.Numbers.{fit_check}
use Rattle.cycle.proofs.SentBack.{fit_shortest}
use Rattle.maxeltu.specs.Calls.{stretch_call}
use Rattle.maxeltu.proofs.LocalWords.{unpacked}
use Rattle.maxeltu.proofs.maxeltu_shortest_stretch.Goals as goal

pub returns : goal.returns
unfolding stretch_call
returns c =
    let s = c.in-Ok.s in
    let found = c.shortest_stretch.ensures in
    let same = unpacked c.args.pairs.now _ _ c.unpack-used.ensures in
    rw (← c.in-Ok.ensures, ← fit_check s c.args.pairs.now, ← fit_shortest s c.args.pairs.now, ← same, ← found.answer, ← found.stretch)
    (c.judged_answer.ensures.number, c.judged_answer.ensures.first, c.judged_answer.ensures.reports)
