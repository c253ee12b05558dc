-- Which number a plan that is not written out gets, by the three tests.
use Prim.Native.Nat.{ℕ, ◌≤◌, ◌<◌}
use native.Mathlib.Omega.{arith}
use mathlib.Core.Path.{◌≡◌, refl}
use mathlib.Core.Logic.{◌↔◌, ◌⊎◌, inl, inr, ⊎_elim}
use mathlib.Core.Bool.{Bool, true, false, cond, not}
use mathlib.Core.List.{List}
use lib.Dec.{ltb}
use lib.ListN.{length}
use Rattle.std.specs.Prelude.{Result, Ok, Err}
use Rattle.numbers.proofs.Cases.{lt_cases}
use Rattle.numbers.proofs.Tests.{not_both, ltb_iff}
use Rattle.spec.specs.Limits.{if_none}
use Rattle.plan.specs.declared.Plan.{Plan}
use Rattle.plan.specs.Plans.{proper}
use Rattle.plan.proofs.Proper.{proper_bounds}
use Rattle.pairs.specs.Pairs.{count_in}
use Rattle.pairs.proofs.Counts.{count_in_true}
use Rattle.cycle.proofs.Steps.{count_right}
use Rattle.cyclefile.specs.File.{cycle_bytes, write_number}
use Rattle.planfile.specs.PlanFile.{plan_pairs, plan_file}
use Rattle.planfile.proofs.Written.{length_plan_pairs}

module _ (p : Plan) (room n : ℕ) where
  abbrev Improper : Type 0
  Improper = (n ≡ 11) × (proper p ≡ false)

  abbrev TooMany : Type 0
  TooMany = (n ≡ 12) × (proper p ≡ true) × (512 < p.count)

  abbrev TooLong : Type 0
  TooLong = (n ≡ 20) × (proper p ≡ true) × (p.count ≤ 512) × (room < length (cycle_bytes (plan_pairs p)))

  abbrev bytes : List ℕ
  bytes = cycle_bytes (plan_pairs p)

  abbrev answer : (ok count short : Bool) → Result (List ℕ) ℕ
  answer ok count short = cond ok (if_none (cond (not count) 12 (cond short 20 0)) (Ok bytes) Err) (Err 11)

  by_tests : (ok count short : Bool) → proper p ≡ ok → count_in (length (plan_pairs p)) ≡ count → ltb room (length bytes) ≡ short
      → (answer ok count short ≡ Err n) ↔ (Improper ⊎ (TooMany ⊎ TooLong))
  unfolding if_none
  by_tests false count short a b c = (
    λ e. inl (cc, a),
    ⊎_elim (λ h. rw h.0) (⊎_elim (λ h. absurd (not_both (proper p) h.1 a)) (λ h. absurd (not_both (proper p) h.1 a))),
  )
  by_tests true false short a b c =
      let many : 512 < p.count =
      ⊎_elim
      (λ h. h)
      (λ few. absurd (not_both _ (count_right (length (plan_pairs p)) (omega (arith, length_plan_pairs p, (proper_bounds p a).some)) (omega (arith, length_plan_pairs p))) b))
      (lt_cases 512 p.count) in (
        λ e. inr (inl (cc, a, many)),
        ⊎_elim (λ h. absurd (not_both (proper p) a h.1)) (⊎_elim (λ h. rw h.0) (λ h. absurd (omega (arith, h.2)))),
      )
  by_tests true true true a b c =
      let few = (count_in_true (length (plan_pairs p)) b).1 in (
        λ e. inr (inr (cc, a, omega (arith, length_plan_pairs p), (ltb_iff _ _).0 c)),
        ⊎_elim (λ h. absurd (not_both (proper p) a h.1)) (⊎_elim (λ h. absurd (omega (arith, h.2, length_plan_pairs p))) (λ h. rw h.0)),
      )
  by_tests true true false a b c =
      let few = (count_in_true (length (plan_pairs p)) b).1 in (
        λ e. cc,
        ⊎_elim
            (λ h. absurd (not_both (proper p) a h.1))
            (⊎_elim (λ h. absurd (omega (arith, h.2, length_plan_pairs p))) (λ h. absurd (not_both _ ((ltb_iff room (length bytes)).1 h.3) c))),
      )

  pub plan_file_numbers : (plan_file room p ≡ Err n) ↔ (Improper ⊎ (TooMany ⊎ TooLong))
  unfolding plan_file write_number
  plan_file_numbers = by_tests (proper p) (count_in (length (plan_pairs p))) (ltb room (length bytes)) refl refl refl
