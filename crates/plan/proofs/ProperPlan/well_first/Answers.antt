-- `size_sum` says that the sum of the first n sizes is what the code adds.
use Rattle.plan.proofs.Proper.{proper_bounds}
use Rattle.plan.proofs.WellFormed.{size_sum}
use Rattle.plan.proofs.ProperPlan.well_first.Goals as goal

pub returns : goal.returns
returns c =
    rw (c.min.ensures, c.count-k.ensures.number, c.total-total.ensures.number, size_sum c.args.self.plan.count (proper_bounds _ c.args.self.is_proper).some c.args.self.plan.total c.args.n)
