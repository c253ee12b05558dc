-- The check is of the pairs that the words hold, and more than 512 get the number that none get.
use mathlib.Core.Path.{ap, ◌∙◌}
use Rattle.cycle.specs.LateCheck.{late_number, late_file_number}
use Rattle.cycle.proofs.Numbers.{fit_late}
use Rattle.maxeltu.proofs.LocalWords.{unpacked}
use Rattle.maxeltu.proofs.maxeltu_check_late.Goals as goal

pub returns : goal.returns
unfolding late_file_number
returns c =
    let spec = c.in-Ok.s in
    rw (← c.in-Ok.ensures)
    (c.answer_number-2.ensures
    ∙ c.check_late.ensures
    ∙ ap (late_number spec c.args.lateness) (unpacked c.args.pairs.now _ _ c.unpack-used.ensures)
    ∙ fit_late spec c.args.lateness c.args.pairs.now)
