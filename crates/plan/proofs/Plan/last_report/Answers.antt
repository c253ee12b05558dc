-- What is told of a proper plan.
use Rattle.plan.proofs.Answers.{told, not_proper}
use Rattle.plan.proofs.Plan.last_report.Goals as goal

pub returns-in_err-proper : goal.returns-in_err-proper
returns-in_err-proper c = not_proper _ _ _ c.in_err-proper.ensures.err c.from_residual.ensures.1

pub returns : goal.returns
returns c = rw (← c.in_ok-proper.ensures.ok) (told _ c.in_ok-proper.field-0.is_proper c.last_report.ensures.0)
