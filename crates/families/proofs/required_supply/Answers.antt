-- The definition itself. It is at most 1,000 records a minute, so that it fits (`required_most`).
use native.Mathlib.Omega.{arith}
use Rattle.families.specs.Families.{required}
use Rattle.families.proofs.Figures.{first_held, required_most}
use Rattle.families.proofs.required_supply.Goals as goal

pub overflow_cast-result : goal.overflow_cast-result
unfolding required
overflow_cast-result c =
    let held = rw c.from.ensures at (first_held c.args.plan.plan _ c.first_minutes.ensures) in
    let most = required_most c.args.plan.plan c.args.plan.is_proper c.args.r in
    record { fits = omega arith }

pub returns : goal.returns
unfolding required
returns c = rw c.from.ensures at (first_held c.args.plan.plan _ c.first_minutes.ensures)
