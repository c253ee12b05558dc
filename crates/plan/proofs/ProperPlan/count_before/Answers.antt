-- The code is `reports_closed`; its sum counts reports, of which at most m lie before minute m.
use native.Mathlib.Omega.{arith}
use mathlib.Core.Path.{sym}
use Rattle.plan.proofs.Minutes.{within_before}
use Rattle.plan.proofs.PlanCounts.{reports_closed, reports_few}
use Rattle.plan.proofs.ProperPlan.count_before.Goals as goal

pub overflow_mul-result : goal.overflow_mul-result
overflow_mul-result c =
    let closed = reports_closed _ c.args.self.is_proper c.count-k.ensures.number c.period-period.ensures.number c.args.m in
    record { fits = omega (arith, closed, reports_few _ c.args.self.is_proper c.args.m) }

pub overflow_add-result : goal.overflow_add-result
unfolding within_before
overflow_add-result c =
    let closed = reports_closed _ c.args.self.is_proper c.count-k.ensures.number c.period-period.ensures.number c.args.m in
    rw (c.min.ensures, c.ceil_div-by_longer.ensures, c.ceil_div-by_shorter.ensures)
    (record { fits = omega (arith, closed, reports_few _ c.args.self.is_proper c.args.m) })

pub returns : goal.returns
unfolding within_before
returns c =
    let closed = reports_closed _ c.args.self.is_proper c.count-k.ensures.number c.period-period.ensures.number c.args.m in
    rw (c.min.ensures, c.ceil_div-by_longer.ensures, c.ceil_div-by_shorter.ensures)
    (sym closed, omega (arith, closed, reports_few _ c.args.self.is_proper c.args.m))
