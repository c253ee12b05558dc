-- The cases of the even plan's answer, by the gap that the code has found.
use Prim.Native.Nat.{ℕ, ◌<◌}
use native.Mathlib.Omega.{arith}
use mathlib.Core.Path.{◌≡◌}
use borrow.Author.Tests.{ne_eqb}
use Rattle.std.specs.Prelude.{Option, None, Some, Ok, Err, MatchOption}
use Rattle.std.specs.Option.{ok_or}
use Rattle.std.specs.declared.num.NonZeroU16.{NonZeroU16}
use Rattle.std.specs.Int.NonZero.{non_zero_u16_get}
use Rattle.spec.specs.declared.Spec.{Spec}
use Rattle.spec.specs.Limits.{IsAccepted, spec_number}
use Rattle.spec.specs.declared.refusal.Refusal.TheVariants.{NoEvenPlan}
use Rattle.spec.specs.Refusals.{numbered}
use Rattle.spec.proofs.GoingOn.{goes_on}
use Rattle.plan.specs.declared.Plan.{Plan}
use Rattle.even.specs.Even.{even_gap, even_plan_at, plan_or10, even_plan}
use Rattle.even.specs.Jump.{gap_number}

module _ (s : Spec) (ok : IsAccepted s) where
  pub plan_none : 0 ≡ even_gap s → Err 10 ≡ even_plan s
  unfolding even_plan plan_or10
  plan_none e = rw (goes_on (spec_number s) (plan_or10 s (even_gap s)) Err ok, ← e)

  pub plan_some : {g : ℕ} → g ≡ even_gap s → 0 < g → Ok (even_plan_at s g) ≡ even_plan s
  unfolding even_plan plan_or10
  plan_some {g} e h = rw (goes_on (spec_number s) (plan_or10 s (even_gap s)) Err ok, ← e, ne_eqb g 0 (omega arith))

  -- the plan at the gap that was found, if any, or refusal 10
  pub plan_told : (gap : Option NonZeroU16) (found : Option Plan) → gap_number gap ≡ even_gap s
      → MatchOption gap (found ≡ None) (λ g. found ≡ Some (even_plan_at s (non_zero_u16_get g))) → numbered (ok_or found NoEvenPlan) ≡ even_plan s
  plan_told None found e h = rw h (plan_none e)
  plan_told (Some g) found e h = rw h (plan_some e g.ok)
