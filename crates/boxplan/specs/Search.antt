-- How the code says what it has found, and how many gaps it tries. No part of what the box plan is: BoxPlan.antt says that.
use Rattle.std.specs.Prelude.{ℕ, ◌≤◌, ◌<◌, cond, eqb, Option, None, Some}
use Rattle.spec.specs.declared.Spec.{Spec}
use Rattle.spec.specs.Limits.{IsAccepted}
use Rattle.lateness.specs.PlannedSpec.{planned_spec}
use Rattle.plan.specs.declared.Plan.{Plan}
use Rattle.even.specs.Search.{tries}
use Rattle.boxplan.specs.BoxPlan.{can_load, box_plan_at}

-- the number of pairs that the code gives, or 513 where it gives none, as the definitions say
abbrev pub pairs_number : Option ℕ → ℕ
pairs_number None = 513
pairs_number (Some q) = q

-- the plan at a gap, if some number of pairs will do there
unfoldable pub plan_if : Spec → ℕ → Option Plan
plan_if spec s = cond (can_load spec s) (Some (box_plan_at spec s)) None

-- the plan at a gap that was found, of which 0 is none
unfoldable pub plan_found : Spec → ℕ → Option Plan
plan_found spec s = cond (eqb s 0) None (Some (box_plan_at spec s))

-- At most 284 gaps of each range are tried, whatever the lateness, counted up to n. Proved in proofs/Tries.antt.
abbrev pub FewTries : Type 0
FewTries = (spec : Spec) (lateness : ℕ) → IsAccepted spec → (n lo hi : ℕ) → 0 < lo → tries (planned_spec spec lateness).demand lo n hi ≤ 284
