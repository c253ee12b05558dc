-- The cases of the box plan's answer, by what the code has found: the refusal of what it begins with, the plan of the second range, that of the
-- first, or 30.
use Prim.Native.Nat.{ℕ, ◌≤◌, ◌<◌}
use native.Mathlib.Omega.{arith}
use mathlib.Core.Path.{◌≡◌, refl, sym, ◌∙◌, ap}
use mathlib.Core.Logic.{⊎_elim}
use borrow.Author.Tests.{eq-eqb, ne_eqb}
use Rattle.std.specs.Prelude.{Option, None, Some, Ok, Err, MatchOption}
use Rattle.std.specs.Option.{ok_or}
use Rattle.numbers.proofs.Cases.{lt_cases}
use Rattle.spec.specs.declared.Spec.{Spec}
use Rattle.spec.specs.declared.refusal.Refusal.TheVariants.{NoBoxPlan}
use Rattle.spec.specs.Limits.{range_of, gap_top}
use Rattle.spec.specs.Refusals.{numbered}
use Rattle.spec.proofs.GoingOn.{goes_on, stops}
use Rattle.lateness.specs.Lateness.{lateness_number}
use Rattle.lateness.specs.PlannedSpec.{planned_spec, planned_for}
use Rattle.lateness.proofs.Begins.{begins_iff, was_planned, was_refused}
use Rattle.lateness.proofs.PlannedSpec.{planned_rises}
use Rattle.plan.specs.declared.Plan.{Plan}
use Rattle.even.specs.Search.{largest_of}
use Rattle.even.proofs.BothRanges.{second_first, first_then}
use Rattle.boxplan.specs.BoxPlan.{can_load, box_gap, box_plan_at, plan_or30, box_plan}
use Rattle.boxplan.specs.Search.{plan_found}

module _ (spec : Spec) (s : ℕ) where
  pub at_none : s ≡ 0 → plan_or30 spec s ≡ Err 30
  unfolding plan_or30
  at_none e = rw (eq-eqb s 0 e)

  pub at_some : 0 < s → plan_or30 spec s ≡ Ok (box_plan_at spec s)
  unfolding plan_or30
  at_some pos = rw (ne_eqb s 0 (omega arith))

  -- 0 is no gap that was found
  nothing : plan_found spec s ≡ None → s ≡ 0
  unfolding plan_found
  nothing e = ⊎_elim (λ pos. let z = rw (ne_eqb s 0 (omega arith)) at e in cc) (λ z. omega arith) (lt_cases 0 s)

  something : (p : Plan) → plan_found spec s ≡ Some p → 0 < s
  unfolding plan_found
  something p e = ⊎_elim (λ pos. pos) (λ z. let none = rw (eq-eqb s 0 (omega arith)) at e in cc) (lt_cases 0 s)

  -- the answer by what was found
  told : numbered (ok_or (plan_found spec s) NoBoxPlan) ≡ plan_or30 spec s
  unfolding plan_found plan_or30
  told = ⊎_elim (λ pos. rw (ne_eqb s 0 (omega arith))) (λ z. rw (eq-eqb s 0 (omega arith))) (lt_cases 0 s)

-- the plan of the second range where one was found there, and else that of the first
module _ (spec : Spec) (rises : spec.smax ≤ gap_top spec) (r : Option Plan) where
  either : (a : Option Plan) → a ≡ plan_found spec (largest_of (can_load spec) spec.second)
      → MatchOption a (r ≡ plan_found spec (largest_of (can_load spec) (Some (range_of spec.smin spec.smax)))) (λ p. r ≡ Some p)
      → r ≡ plan_found spec (box_gap spec)
  unfolding box_gap
  either None e h = h ∙ ap (plan_found spec) (sym (first_then spec (can_load spec) rises (nothing spec _ (sym e))))
  either (Some p) e h = h ∙ e ∙ ap (plan_found spec) (sym (second_first spec (can_load spec) rises spec.second refl (something spec _ p (sym e))))

module _ (spec : Spec) (lateness : ℕ) where
  -- what it begins with is told
  pub begins_stopped : ¬ (lateness_number spec lateness ≡ 0) → box_plan spec lateness ≡ Err (lateness_number spec lateness)
  unfolding box_plan
  begins_stopped h = stops (lateness_number spec lateness) _ Err h

  pub begins_refused : (n : ℕ) → planned_for spec lateness ≡ Err n → Err n ≡ box_plan spec lateness
  begins_refused n e =
      let k = was_refused spec lateness n e in
      sym (begins_stopped k.0 ∙ ap Err k.1)

  -- and else it goes by what planned minutes must meet
  pub begins_planned : lateness_number spec lateness ≡ 0 → box_plan spec lateness ≡ plan_or30 (planned_spec spec lateness) (box_gap (planned_spec spec lateness))
  unfolding box_plan
  begins_planned e = goes_on (lateness_number spec lateness) _ Err e

  pub plan_told : (planned : Spec) → planned_for spec lateness ≡ Ok planned → (a r : Option Plan) → a ≡ plan_found planned (largest_of (can_load planned) planned.second)
      → MatchOption a (r ≡ plan_found planned (largest_of (can_load planned) (Some (range_of planned.smin planned.smax)))) (λ p. r ≡ Some p)
      → numbered (ok_or r NoBoxPlan) ≡ box_plan spec lateness
  plan_told planned e a r found h =
      let k = was_planned spec lateness planned e in
      let rises : planned.smax ≤ gap_top planned = rw k.1 at (planned_rises spec ((begins_iff spec lateness).0 k.0).0 lateness) in
      rw (either planned rises r a found h, told planned (box_gap planned)) (sym (rw k.1 at (begins_planned k.0)))
