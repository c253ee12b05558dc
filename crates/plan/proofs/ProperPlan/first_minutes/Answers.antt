-- The reports before minute x are the first, and hold what so many first reports hold.
use Rattle.plan.proofs.PlanMoments.{first_contents}
use Rattle.plan.proofs.ProperPlan.first_minutes.Goals as goal

pub returns : goal.returns
returns c = first_contents _ c.args.self.is_proper _ (rw c.from.ensures at c.count_before-reports.ensures.0) c.records_of_first.ensures
