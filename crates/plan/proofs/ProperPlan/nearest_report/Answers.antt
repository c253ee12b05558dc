-- The nearest is the last report or the next, by which of the two differences is smaller.
use native.Mathlib.Omega.{arith}
use Rattle.plan.proofs.PlanMoments.{enclosed, choose_last, choose_next}
use Rattle.plan.proofs.ProperPlan.nearest_report.Goals as goal

pub overflow_sub-asked : goal.overflow_sub-asked
overflow_sub-asked c =
    omega (arith, enclosed c.args.self.plan c.args.self.is_proper c.args.m c.last_report-last.ensures.0 (rw c.from.ensures at c.minute-here.ensures) (rw c.from-2.ensures at c.minute-next.ensures))

pub overflow_sub-next : goal.overflow_sub-next
overflow_sub-next c =
    omega (arith, enclosed c.args.self.plan c.args.self.is_proper c.args.m c.last_report-last.ensures.0 (rw c.from.ensures at c.minute-here.ensures) (rw c.from-2.ensures at c.minute-next.ensures))

pub overflow_add-result : goal.overflow_add-result
overflow_add-result c =
    let near = choose_next c.args.self.plan c.args.self.is_proper c.args.m c.last_report-last.ensures.0 (rw c.from.ensures at c.minute-here.ensures) (rw c.from-2.ensures at c.minute-next.ensures) (omega arith) in
    record { fits = omega (arith, near.1) }

pub returns-then-asked-here : goal.returns-then-asked-here
returns-then-asked-here c =
    choose_last c.args.self.plan c.args.self.is_proper c.args.m c.last_report-last.ensures.0 (rw c.from.ensures at c.minute-here.ensures) (rw c.from-2.ensures at c.minute-next.ensures) (omega arith)

pub returns-else-asked-here : goal.returns-else-asked-here
returns-else-asked-here c =
    choose_next c.args.self.plan c.args.self.is_proper c.args.m c.last_report-last.ensures.0 (rw c.from.ensures at c.minute-here.ensures) (rw c.from-2.ensures at c.minute-next.ensures) (omega arith)
