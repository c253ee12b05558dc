-- The first minutes are from 0 on, which is before no other.
use native.Mathlib.Omega.{arith}
use mathlib.Core.Path.{refl}
use Rattle.plan.proofs.PlanMoments.{not_told, told_contents}
use Rattle.plan.proofs.Plan.first_minutes.Goals as goal

pub returns-in_err-proper : goal.returns-in_err-proper
returns-in_err-proper c = not_told _ _ _ _ c.in_err-proper.ensures.err c.from_residual.ensures.1

pub returns : goal.returns
returns c = rw (c.first_minutes.ensures, ← c.in_ok-proper.ensures.ok) (told_contents _ _ _ c.in_ok-proper.field-0.is_proper (omega arith) refl refl)
