-- What lies between is what lies before b, less what lies before a.
use Rattle.plan.proofs.PlanMoments.{reports_rise, records_rise, contents_between}
use Rattle.plan.proofs.ProperPlan.between.Goals as goal

pub overflow_sub-result : goal.overflow_sub-result
overflow_sub-result c = rw (c.first_minutes-before.ensures, c.first_minutes-until.ensures) (reports_rise _ c.args.self.is_proper _ _ c.requires)

pub overflow_sub-result-2 : goal.overflow_sub-result-2
overflow_sub-result-2 c = rw (c.first_minutes-before.ensures, c.first_minutes-until.ensures) (records_rise _ c.args.self.is_proper _ _ c.requires)

pub returns : goal.returns
returns c = rw (c.first_minutes-before.ensures, c.first_minutes-until.ensures) (contents_between _ c.args.self.is_proper _ _ c.requires)
