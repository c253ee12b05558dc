-- `check_late_file` meets its contract, by what reading the specification gave.
use Rattle.std.proofs.lemmas.Result.{err_from_is_err_and}
use Rattle.cycle.specs.LateCheck.{late_file_number}
use Rattle.cycle.proofs.check_late_file.Goals as goal

pub returns-in_err-spec : goal.returns-in_err-spec
unfolding late_file_number
returns-in_err-spec c =
    let p = err_from_is_err_and c.from_residual.result c.from_residual.ensures.1 in
    rw (p.1, p.2, ← c.in_err-spec.ensures)

pub returns : goal.returns
unfolding late_file_number
returns c = rw (← c.in_ok-spec.ensures) c.check_late.ensures
