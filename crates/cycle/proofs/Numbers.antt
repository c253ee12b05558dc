-- The number of a check by that of its specification, and of a list that has too many pairs. Both for reports on time and for late ones.
use Prim.Native.Nat.{ℕ}
use mathlib.Core.Path.{◌≡◌, refl, sym}
use mathlib.Core.Bool.{and-false}
use mathlib.Core.List.{List}
use Rattle.std.specs.Prelude.{Result, Ok, Err}
use Rattle.spec.specs.declared.Spec.{Spec}
use Rattle.spec.specs.Limits.{spec_number, IsAccepted}
use Rattle.spec.proofs.GoingOn.{goes_on, stops}
use Rattle.lateness.specs.Lateness.{lateness_number}
use Rattle.pairs.specs.declared.Pair.{Pair}
use Rattle.pairs.specs.Pairs.{that_fit}
use Rattle.pairs.proofs.Counts.{fit_cases}
use Rattle.cycle.specs.Check.{first_refusal, cycle_number, check_number}
use Rattle.cycle.specs.LateCheck.{late_cycle_number, late_number, late_file_number}

module _ (spec : Spec) (ps : List Pair) where
  pub gets_refused : ¬ IsAccepted spec → spec_number spec ≡ check_number spec ps
  unfolding check_number
  gets_refused h = sym (stops (spec_number spec) _ (λ n. n) h)

  pub gets_cycle : IsAccepted spec → check_number spec ps ≡ cycle_number spec ps
  unfolding check_number
  gets_cycle accepted = goes_on (spec_number spec) _ (λ n. n) accepted

  -- by the number with which a check with lateness begins
  module _ (lateness : ℕ) where
    pub late_goes_on : lateness_number spec lateness ≡ 0 → late_number spec lateness ps ≡ late_cycle_number spec lateness ps
    unfolding late_number
    late_goes_on h = goes_on (lateness_number spec lateness) _ (λ n. n) h

    pub late_stops : ¬ (lateness_number spec lateness ≡ 0) → late_number spec lateness ps ≡ lateness_number spec lateness
    unfolding late_number
    late_stops h = stops (lateness_number spec lateness) _ (λ n. n) h

-- more than 512 pairs get the number of none
pub fit_check : (spec : Spec) (ps : List Pair) → check_number spec (that_fit 512 ps) ≡ check_number spec ps
unfolding check_number cycle_number first_refusal
fit_check spec ps = fit_cases 512 ps (λ (qs : List Pair). check_number spec qs ≡ check_number spec ps) (λ e. refl) (λ e. rw (e, and-false))

pub fit_late : (spec : Spec) (lateness : ℕ) (ps : List Pair) → late_number spec lateness (that_fit 512 ps) ≡ late_number spec lateness ps
unfolding late_number late_cycle_number first_refusal
fit_late spec lateness ps =
    fit_cases 512 ps (λ (qs : List Pair). late_number spec lateness qs ≡ late_number spec lateness ps) (λ e. refl) (λ e. rw (e, and-false))

pub fit_late_number : (read : Result Spec ℕ) (lateness : ℕ) (ps : List Pair) → late_file_number read lateness (that_fit 512 ps) ≡ late_file_number read lateness ps
unfolding late_file_number
fit_late_number (Ok spec) lateness ps = fit_late spec lateness ps
fit_late_number (Err n) lateness ps = refl
