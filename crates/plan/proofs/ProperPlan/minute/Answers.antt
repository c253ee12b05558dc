-- `run_minute` says that the minute is what the code adds up, and equal gaps add up to a product.
use Prim.Native.Nat.{◌/◌}
use Rattle.schedule.specs.Schedules.{minute}
use Rattle.schedule.proofs.Sums.{sum_const}
use Rattle.plan.specs.Plans.{run, kind_run}
use Rattle.plan.proofs.Minutes.{within}
use Rattle.plan.proofs.PlanCounts.{run_minute}
use Rattle.plan.proofs.ProperPlan.minute.Goals as goal

pub returns-in-WellFormed : goal.returns-in-WellFormed
unfolding within
returns-in-WellFormed c = rw (run_minute c.args.self.plan c.args.self.is_proper c.args.i, c.saturating_sub-longer.ensures, c.count-k.ensures.number, c.period-period.ensures.number)

pub returns-in-Even : goal.returns-in-Even
unfolding minute run kind_run
returns-in-Even c = let p = c.args.self.plan in rw (c.in-Even.is, c.count-k.ensures.number, c.period-period.ensures.number, sum_const (p.period / p.count) c.args.i)
