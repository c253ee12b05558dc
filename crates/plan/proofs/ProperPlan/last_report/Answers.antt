-- Of the reports before the next minute, the last: `reports_until`.
use native.Mathlib.Omega.{arith}
use Rattle.plan.proofs.PlanMoments.{last_of_those}
use Rattle.plan.proofs.ProperPlan.last_report.Goals as goal

pub overflow_sub-result : goal.overflow_sub-result
overflow_sub-result c =
    let e = last_of_those c.args.self.plan c.args.self.is_proper c.args.m (rw c.from.ensures at c.count_before.ensures.0) in
    omega (arith, e.0)

pub returns : goal.returns
returns c =
    let e = last_of_those c.args.self.plan c.args.self.is_proper c.args.m (rw c.from.ensures at c.count_before.ensures.0) in
    (omega (arith, e.0), e.1)
