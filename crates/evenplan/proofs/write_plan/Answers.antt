-- The plan that is written is the answer's, and proper, so its period has a report (even/proofs/EvenPlans.antt).
use Rattle.plan.proofs.Proper.{proper_bounds}
use Rattle.even.proofs.EvenPlans.{even_of_proper}
use Rattle.evenplan.proofs.write_plan.Goals as goal

pub plan_line-requires : goal.plan_line-requires
plan_line-requires g c = (proper_bounds _ (even_of_proper _ _ c.requires)).some
