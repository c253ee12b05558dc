-- By the test, the gap is that of the well-formed kind.
use Rattle.plan.proofs.Answers.{longer_gap, shorter_gap}
use Rattle.plan.proofs.ProperPlan.gap.Goals as goal

pub returns-then-k-period : goal.returns-then-k-period
returns-then-k-period c = longer_gap c.args.self.plan c.args.self.is_proper c.args.i c.if-k-period.true

pub returns-else-k-period : goal.returns-else-k-period
returns-else-k-period c = shorter_gap c.args.self.plan c.args.self.is_proper c.args.i c.if-k-period.false
