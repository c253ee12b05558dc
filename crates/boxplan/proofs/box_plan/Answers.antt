-- After the refusals that it begins with: the plan of the second range, that of the first, or 30.
use mathlib.Core.Path.{sym}
use Rattle.std.proofs.Common.{rules}
use Rattle.std.proofs.lemmas.Result.{err_from_is_err_and}
use Rattle.boxplan.proofs.Cases.{begins_refused, plan_told}
use Rattle.boxplan.proofs.box_plan.Goals as goal

pub returns-in_err-planned : goal.returns-in_err-planned
returns-in_err-planned c =
    let p = err_from_is_err_and c.from_residual.result c.from_residual.ensures.1 in
    rw (p.1, p.2) (begins_refused _ _ _ (sym c.in_err-planned.ensures))

pub returns : goal.returns
returns c =
    rw c.ok_or.ensures.value
    (plan_told _ _ c.in_ok-planned.planned (sym c.in_ok-planned.ensures) c.plan_of.result c.or_else.result c.plan_of.ensures (search rules))
