-- `planned_for` meets its contract: each return is one case of where such an operation begins (proofs/Begins.antt).
use mathlib.Core.Path.{sym}
use Rattle.std.proofs.lemmas.Result.{err_from_is_err_and}
use Rattle.spec.proofs.Refusals.{refused_some}
use Rattle.lateness.proofs.Begins.{for_refused, for_26, for_planned}
use Rattle.lateness.proofs.planned_for.Goals as goal

pub returns-in_err-check : goal.returns-in_err-check
returns-in_err-check c =
    let p = err_from_is_err_and c.from_residual.result c.from_residual.ensures.1 in
    rw (p.1, p.2, c.in_err-check.ensures) (sym (for_refused _ _ (refused_some _ _ c.in_err-check.ensures)))

pub returns-then-lateness-gt-MOST_LATE : goal.returns-then-lateness-gt-MOST_LATE
returns-then-lateness-gt-MOST_LATE c = sym (for_26 _ _ (sym c.in_ok-check.ensures) c.if-lateness-gt-MOST_LATE.true)

pub returns : goal.returns
returns c = rw c.planned_spec.ensures (sym (for_planned _ _ (sym c.in_ok-check.ensures) c.if-lateness-gt-MOST_LATE.false))
