-- The check with lateness is the check against what planned minutes must meet, and with J = 0 the check as it was.
use Prim.Native.Nat.{ℕ, ◌≤◌}
use native.Mathlib.Omega.{arith}
use mathlib.Core.Path.{◌≡◌, refl, sym, ◌∙◌}
use mathlib.Core.Logic.{⊎_elim}
use mathlib.Core.List.{List}
use mathlib.Core.Bool.{true, and-eq-true_iff}
use lib.ListN.{length}
use Rattle.std.specs.Prelude.{Option, None, Some, Result, Ok, Err}
use Rattle.std.proofs.lemmas.Bool.{false_from_ne_true}
use Rattle.numbers.proofs.All.{all_same}
use Rattle.spec.specs.declared.Rate.{Rate}
use Rattle.spec.specs.declared.Spec.{Spec}
use Rattle.spec.specs.Limits.{rate_limits, spec_number, IsAccepted, size_allowed, gap_allowed}
use Rattle.spec.proofs.Facts.{leb_iff, facts, gap_allowed_pos}
use Rattle.spec.proofs.GoingOn.{none_or}
use Rattle.lateness.specs.Lateness.{late_gap_allowed, late_supply}
use Rattle.lateness.specs.PlannedSpec.{planned_spec, planned_for}
use Rattle.lateness.proofs.Begins.{begins_refused, begins_0, begins_iff, was_planned, was_refused}
use Rattle.lateness.proofs.PlannedSpec.{near_iff, planned_gap, gap_on_time, supply_on_time, demand_on_time}
use Rattle.pairs.specs.declared.Pair.{Pair}
use Rattle.cycle.specs.declared.stretches.Side.TheVariants.{Fullest}
use Rattle.cycle.specs.Cycles.{pair_gap}
use Rattle.cycle.specs.Check.{gaps_allowed, sizes_allowed, cycle_number, check_number, check_file_number}
use Rattle.cycle.specs.LateCheck.{late_gaps_allowed, late_cycle_number, late_number, late_file_number}
use Rattle.cycle.specs.Windows.{SomeMinutes, Judges}
use Rattle.cycle.proofs.Numbers.{gets_refused, gets_cycle, late_goes_on, late_stops}

-- an accepted specification can be judged by
some_minutes : (rate : Option Rate) → rate_limits rate ≡ true → SomeMinutes Fullest rate
unfolding rate_limits
some_minutes None h = tt
some_minutes (Some x) h = let k = simp (and-eq-true_iff, leb_iff) at h in omega arith

pub accepted_judges : (spec : Spec) → IsAccepted spec → Judges spec
accepted_judges spec accepted = record {
  gaps = false_from_ne_true (gap_allowed spec 0) (λ e. omega (arith, gap_allowed_pos spec 0 accepted e));
  supply = some_minutes spec.supply (facts spec accepted).supply;
}

-- the check with lateness is the check against that specification, which can be judged by
module _ (spec : Spec) (lateness : ℕ) (accepted : IsAccepted spec) where
  pub planned_number : (ps : List Pair) → late_cycle_number spec lateness ps ≡ cycle_number (planned_spec spec lateness) ps
  unfolding late_cycle_number cycle_number late_gaps_allowed gaps_allowed sizes_allowed size_allowed planned_spec
  planned_number ps =
      rw (all_same (λ j. late_gap_allowed spec lateness (pair_gap ps j)) (λ j. gap_allowed (planned_spec spec lateness) (pair_gap ps j)) (length ps) (λ j. planned_gap spec accepted lateness (pair_gap ps j)))

  longer : (rate : Option Rate) → rate_limits rate ≡ true → SomeMinutes Fullest (late_supply lateness rate)
  unfolding late_supply
  longer None h = tt
  longer (Some x) h = let k : 1 ≤ x.minutes = some_minutes (Some x) h in omega arith

  -- a gap of 0 is not allowed: on the way from -J to J it is 0
  pub planned_judges : Judges (planned_spec spec lateness)
  unfolding planned_spec
  planned_judges = record {
    gaps = false_from_ne_true (gap_allowed (planned_spec spec lateness) 0)
        (λ e. omega (arith, gap_allowed_pos spec 0 accepted ((near_iff spec lateness 0).0 (planned_gap spec accepted lateness 0 ∙ e) 0 (omega arith, omega arith))));
    supply = longer spec.supply (facts spec accepted).supply;
  }

-- so by what planned minutes must meet, or the refusal, goes the number
module _ (spec : Spec) (lateness : ℕ) where
  pub against_judges : (planned : Spec) → planned_for spec lateness ≡ Ok planned → Judges planned
  against_judges planned e =
      let k = was_planned spec lateness planned e in
      rw k.1 at (planned_judges spec lateness ((begins_iff spec lateness).0 k.0).0)

  pub against_number : (planned : Spec) (ps : List Pair) → planned_for spec lateness ≡ Ok planned → cycle_number planned ps ≡ late_number spec lateness ps
  against_number planned ps e =
      let k = was_planned spec lateness planned e in
      sym (late_goes_on spec ps lateness k.0 ∙ rw k.1 at (planned_number spec lateness ((begins_iff spec lateness).0 k.0).0 ps))

  pub refused_number : (n : ℕ) (ps : List Pair) → planned_for spec lateness ≡ Err n → n ≡ late_number spec lateness ps
  refused_number n ps e = let k = was_refused spec lateness n e in sym (late_stops spec ps lateness k.0 ∙ k.1)

-- of the gaps from g to g there is one, and the rates are the given ones
cycle_on_time : (spec : Spec) (ps : List Pair) → late_cycle_number spec 0 ps ≡ cycle_number spec ps
unfolding late_cycle_number late_gaps_allowed cycle_number gaps_allowed
cycle_on_time spec ps =
    rw (all_same (λ j. late_gap_allowed spec 0 (pair_gap ps j)) (λ j. gap_allowed spec (pair_gap ps j)) (length ps) (λ j. gap_on_time spec (pair_gap ps j)), supply_on_time spec.supply, demand_on_time spec.demand)

pub on_time_same : (spec : Spec) (ps : List Pair) → late_number spec 0 ps ≡ check_number spec ps
on_time_same spec ps =
    ⊎_elim
    (λ accepted. late_goes_on spec ps 0 (begins_0 spec 0 accepted (omega arith)) ∙ cycle_on_time spec ps ∙ sym (gets_cycle spec ps accepted))
    (λ refused.
    let n = begins_refused spec 0 refused in
    late_stops spec ps 0 (λ e. refused (sym n ∙ e)) ∙ n ∙ gets_refused spec ps refused)
    (none_or (spec_number spec))

pub on_time_number : (read : Result Spec ℕ) (ps : List Pair) → late_file_number read 0 ps ≡ check_file_number read ps
unfolding late_file_number check_file_number
on_time_number (Ok spec) ps = on_time_same spec ps
on_time_number (Err n) ps = refl
