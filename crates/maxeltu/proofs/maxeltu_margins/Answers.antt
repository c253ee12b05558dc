-- The margins are of the pairs that the words hold, and more than 512 are answered as none are.
use Rattle.cycle.proofs.CycleMargins.{fit_margins}
use Rattle.maxeltu.specs.Calls.{fullest_call, thinnest_call}
use Rattle.maxeltu.proofs.LocalWords.{unpacked}
use Rattle.maxeltu.proofs.maxeltu_margins.Goals as goal

pub returns : goal.returns
unfolding fullest_call thinnest_call
returns c =
    let same = unpacked c.args.pairs.now _ _ c.unpack-used.ensures in
    rw (← c.in-Ok.ensures, ← fit_margins c.in-Ok.s c.args.pairs.now, ← same, ← c.margins_of-found.ensures)
    (c.margins_answer.ensures.number, c.margins_answer.ensures.most, c.margins_answer.ensures.most_from, c.margins_answer.ensures.least, c.margins_answer.ensures.least_after)
