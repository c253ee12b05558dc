-- The cases of `between_of`.
use mathlib.Core.Path.{refl}
use Rattle.plan.proofs.PlanMoments.{not_told, backwards, told_contents}
use Rattle.plan.proofs.Plan.between.Goals as goal

pub returns-in_err-plan : goal.returns-in_err-plan
returns-in_err-plan c = not_told _ _ _ _ c.in_err-plan.ensures.err c.from_residual.ensures.1

pub returns-then-b-a : goal.returns-then-b-a
returns-then-b-a c = rw (← c.in_ok-plan.ensures.ok) (backwards _ _ _ c.in_ok-plan.plan.is_proper c.if-b-a.true)

pub returns : goal.returns
returns c = rw (c.between.ensures, ← c.in_ok-plan.ensures.ok) (told_contents _ _ _ c.in_ok-plan.plan.is_proper c.if-b-a.false refl refl)
