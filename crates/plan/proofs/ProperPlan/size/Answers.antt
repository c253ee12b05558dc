-- By kind; that of the even kind is a difference of two sums of records, of which the second is not above the first. Either fits, as no size is
-- above 1,000 records.
use native.Mathlib.Omega.{arith}
use Prim.Native.Nat.{◌-◌, ◌≤◌}
use mathlib.Core.Path.{◌≡◌}
use Rattle.plan.specs.Plans.{run, even_size}
use Rattle.plan.proofs.Proper.{proper_bounds}
use Rattle.plan.proofs.EvenSizes.{first_more}
use Rattle.plan.proofs.Answers.{well_sized, even_sized}
use Rattle.plan.proofs.ProperPlan.size.Goals.{After-well_size, After-even_first-in-Even}
use Rattle.plan.proofs.ProperPlan.size.Goals as goal

well : (c : After-well_size) → (c.well_size.result ≡ (run c.args.self.plan).size c.args.i) × (c.well_size.result ≤ 1000)
well c = well_sized c.args.self.plan c.args.i c.args.self.is_proper c.in-WellFormed.is (rw c.from-i.ensures at c.well_size.ensures)

even : (c : After-even_first-in-Even) → (c.even_first.result - c.even_first-in-Even.result ≡ (run c.args.self.plan).size c.args.i) × (c.even_first.result - c.even_first-in-Even.result ≤ 1000)
unfolding even_size
even c = even_sized c.args.self.plan c.args.i c.args.self.is_proper c.in-Even.is (rw (c.even_first.ensures, c.even_first-in-Even.ensures, c.from-i.ensures))

pub overflow_sub-result : goal.overflow_sub-result
overflow_sub-result c =
    let p = c.args.self.plan in
    rw (c.even_first.ensures, c.even_first-in-Even.ensures) (first_more p.count p.total (proper_bounds p c.args.self.is_proper).some c.from-i.result)

pub overflow_cast-result : goal.overflow_cast-result
overflow_cast-result c = record { fits = omega (arith, (well c).1) }

pub overflow_cast-result-in-Even : goal.overflow_cast-result-in-Even
overflow_cast-result-in-Even c = record { fits = omega (arith, (even c).1) }

pub returns-in-WellFormed : goal.returns-in-WellFormed
returns-in-WellFormed c = well c

pub returns-in-Even : goal.returns-in-Even
returns-in-Even c = even c
