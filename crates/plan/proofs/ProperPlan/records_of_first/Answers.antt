-- By kind: the sum of the sizes is that of the kind.
use Rattle.plan.proofs.Answers.{well_held, even_held}
use Rattle.plan.proofs.ProperPlan.records_of_first.Goals as goal

pub returns-in-WellFormed : goal.returns-in-WellFormed
returns-in-WellFormed c = well_held _ _ c.in-WellFormed.is (rw c.from.ensures at c.well_first.ensures)

pub returns-in-Even : goal.returns-in-Even
returns-in-Even c = even_held _ _ c.args.self.is_proper c.in-Even.is (rw c.from-in-Even.ensures at c.even_first.ensures)
