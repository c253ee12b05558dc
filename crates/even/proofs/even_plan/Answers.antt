-- After the specification's own number: the plan at the gap that was found, or 10.
use mathlib.Core.Path.{sym, ap, ◌∙◌}
use Rattle.std.specs.Prelude.{Ok}
use Rattle.even.proofs.Cases.{plan_none, plan_some}
use Rattle.even.proofs.even_plan.Goals as goal

pub returns-in-Some : goal.returns-in-Some
returns-in-Some c = ap Ok c.plan_at.ensures ∙ plan_some c.args.spec (sym c.in_ok-check.ensures) c.in-Some.ensures c.in-Some.gap.ok

pub returns-in-None : goal.returns-in-None
returns-in-None c = plan_none c.args.spec (sym c.in_ok-check.ensures) c.in-None.ensures
