-- The numbers with which an operation that takes a lateness begins: those of the specification, then 26, given exactly where J is above 1,440.
-- And what it goes on with: the specification that planned minutes must meet.
use Prim.Native.Nat.{ℕ, ◌≤◌, ◌<◌}
use native.Mathlib.Omega.{arith}
use mathlib.Core.Path.{◌≡◌, sym, ◌∙◌, ap}
use mathlib.Core.Logic.{◌↔◌, ⊎_elim}
use borrow.Author.Tests.{le-leb, lt-leb}
use Rattle.std.specs.Prelude.{Ok, Err}
use Rattle.numbers.proofs.Cases.{lt_cases}
use Rattle.spec.specs.declared.Spec.{Spec}
use Rattle.spec.specs.Limits.{spec_number, IsAccepted}
use Rattle.spec.proofs.GoingOn.{none_or, goes_on, stops, went_on, number_few}
use Rattle.lateness.specs.Lateness.{lateness_number}
use Rattle.lateness.specs.PlannedSpec.{planned_spec, planned_for}

module _ (spec : Spec) (lateness : ℕ) where
  pub begins_refused : ¬ IsAccepted spec → lateness_number spec lateness ≡ spec_number spec
  unfolding lateness_number
  begins_refused h = stops (spec_number spec) _ (λ n. n) h

  pub begins_26 : IsAccepted spec → 1440 < lateness → lateness_number spec lateness ≡ 26
  unfolding lateness_number
  begins_26 accepted h = goes_on (spec_number spec) _ (λ n. n) accepted ∙ rw (lt-leb lateness 1440 h)

  pub begins_0 : IsAccepted spec → lateness ≤ 1440 → lateness_number spec lateness ≡ 0
  unfolding lateness_number
  begins_0 accepted h = goes_on (spec_number spec) _ (λ n. n) accepted ∙ rw (le-leb lateness 1440 h)

  -- it is 0 only there, and 26 only there
  pub begins_iff : (lateness_number spec lateness ≡ 0) ↔ (IsAccepted spec × (lateness ≤ 1440))
  begins_iff = (
    λ e.
        ⊎_elim
        (λ accepted. ⊎_elim (λ h. absurd (omega (arith, begins_26 accepted h))) (λ h. (accepted, h)) (lt_cases 1440 lateness))
        (λ refused. absurd (refused (sym (begins_refused refused) ∙ e)))
        (none_or (spec_number spec)),
    λ h. begins_0 h.0 h.1,
  )

  pub begins_26_iff : (lateness_number spec lateness ≡ 26) ↔ (IsAccepted spec × (1440 < lateness))
  begins_26_iff = (
    λ e.
        ⊎_elim
        (λ accepted. ⊎_elim (λ h. (accepted, h)) (λ h. absurd (omega (arith, begins_0 accepted h))) (lt_cases 1440 lateness))
        (λ refused. absurd (⊎_elim (λ h. omega (arith, begins_refused refused)) (λ h. omega (arith, begins_refused refused)) (number_few spec refused)))
        (none_or (spec_number spec)),
    λ h. begins_26 h.0 h.1,
  )

  -- what is handed on, and back from it
  pub for_refused : ¬ IsAccepted spec → planned_for spec lateness ≡ Err (spec_number spec)
  unfolding planned_for
  for_refused h = stops (lateness_number spec lateness) _ Err (λ e. h (begins_iff.0 e).0) ∙ ap Err (begins_refused h)

  pub for_26 : IsAccepted spec → 1440 < lateness → planned_for spec lateness ≡ Err 26
  unfolding planned_for
  for_26 accepted h = let n = begins_26 accepted h in stops (lateness_number spec lateness) _ Err (λ e. omega arith) ∙ ap Err n

  pub for_planned : IsAccepted spec → lateness ≤ 1440 → planned_for spec lateness ≡ Ok (planned_spec spec lateness)
  unfolding planned_for
  for_planned accepted h = goes_on (lateness_number spec lateness) _ Err (begins_0 accepted h)

  pub was_planned : (s : Spec) → planned_for spec lateness ≡ Ok s → (lateness_number spec lateness ≡ 0) × (planned_spec spec lateness ≡ s)
  unfolding planned_for
  was_planned s e =
      let k = went_on (lateness_number spec lateness) (Ok (planned_spec spec lateness)) Err (Ok s) (λ some h. absurd (let z : ◌≡◌ {A = ℕ} 0 1 = cc in omega arith)) e in
      (k.0, let h = k.1 in cc)

  pub was_refused : (n : ℕ) → planned_for spec lateness ≡ Err n → (¬ (lateness_number spec lateness ≡ 0)) × (lateness_number spec lateness ≡ n)
  unfolding planned_for
  was_refused n e =
      ⊎_elim
      (λ z. absurd (let h = sym (goes_on (lateness_number spec lateness) (Ok (planned_spec spec lateness)) Err z) ∙ e in let y : ◌≡◌ {A = ℕ} 0 1 = cc in omega arith))
      (λ z. (z, let h = sym (stops (lateness_number spec lateness) (Ok (planned_spec spec lateness)) Err z) ∙ e in cc))
      (none_or (lateness_number spec lateness))
