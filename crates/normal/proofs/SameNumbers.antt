-- A run that is begun at a later report keeps what the whole run keeps. So a test that is right of such a thing, of two cycles each of whose runs is the
-- other begun at some report, passes for both or for none; the gaps, the sizes and both rates are such tests, and the number goes by them.
use Prim.Native.Nat.{ℕ, ◌≤◌}
use native.Mathlib.Omega.{arith}
use mathlib.Core.Path.{◌≡◌, refl, sym, ◌∙◌}
use mathlib.Core.Logic.{◌↔◌}
use mathlib.Core.Bool.{Bool, true, false}
use mathlib.Core.List.{List}
use lib.ListN.{length}
use Rattle.std.specs.Prelude.{Option, Result, Ok, Err}
use Rattle.numbers.proofs.All.{same_test}
use Rattle.spec.specs.declared.Rate.{Rate}
use Rattle.spec.specs.declared.Spec.{Spec}
use Rattle.schedule.specs.Schedules.{Schedule, begun_at}
use Rattle.schedule.specs.Rules.{SizesAllowed, GapsAllowed}
use Rattle.schedule.proofs.Begun.{gaps_begun, sizes_begun, later_begun, supply_begun, demand_begun}
use Rattle.lateness.specs.PlannedSpec.{planned_for}
use Rattle.pairs.specs.declared.Pair.{Pair}
use Rattle.cycle.specs.Cycles.{cycle_run}
use Rattle.cycle.specs.Check.{gaps_allowed, sizes_allowed, supply_kept, demand_met, first_refusal, cycle_number, check_number, check_file_number}
use Rattle.cycle.specs.LateCheck.{late_number, late_file_number}
use Rattle.cycle.specs.Windows.{Judges}
use Rattle.cycle.proofs.Runs.{gaps_right, sizes_right, supply_right, demand_right}
use Rattle.cycle.proofs.Steps.{count_right, judged_later}
use Rattle.cycle.proofs.Planned.{against_judges, against_number, refused_number, on_time_same}
use Rattle.normal.specs.Normal.{normal_form}
use Rattle.normal.proofs.SameCycles.{normal_some, normal_short, normal_run, run_normal}

-- each of two runs is the other begun at some report
record OneRun (s t : Schedule) : Type 0 where
  k : ℕ
  k' : ℕ
  there : t ≡ begun_at s k
  back : s ≡ begun_at t k'

-- what is kept by a run that is begun later is kept by both or by none
both_keep : (s t : Schedule) → OneRun s t → (Kept : Schedule → Type 0) → ((s : Schedule) (k : ℕ) → Kept s → Kept (begun_at s k)) → Kept s ↔ Kept t
both_keep s t one Kept on = (λ h. rw one.there (on s one.k h), λ h. rw one.back (on t one.k' h))

-- and a test that is right of it passes for both or for none
same_by : {P Q : Type 0} (a b : Bool) → (a ≡ true) ↔ P → (b ≡ true) ↔ Q → P ↔ Q → a ≡ b
same_by a b right right' both = same_test a b (λ e. right'.1 (both.0 (right.0 e)), λ e. right.1 (both.1 (right'.0 e)))

-- the number, where gaps that are not allowed keep the stretches from being looked at
same_refusal : (count gaps sizes supply demand supply' demand' : Bool) → (gaps ≡ true → supply ≡ supply') → (gaps ≡ true → demand ≡ demand')
    → first_refusal count gaps sizes supply demand ≡ first_refusal count gaps sizes supply' demand'
unfolding first_refusal
same_refusal count true sizes supply demand supply' demand' h k = rw (h refl, k refl)
same_refusal count false sizes supply demand supply' demand' h k = refl

module _ (ps qs : List Pair) (some : 1 ≤ length ps) (some' : 1 ≤ length qs) (one : OneRun (cycle_run ps) (cycle_run qs)) (spec : Spec) (judges : Judges spec) where
  gaps_same : gaps_allowed spec ps ≡ gaps_allowed spec qs
  gaps_same = same_by _ _ (gaps_right ps some spec) (gaps_right qs some' spec) (both_keep _ _ one (λ s. GapsAllowed spec s.gap) (gaps_begun spec))

  sizes_same : sizes_allowed spec ps ≡ sizes_allowed spec qs
  sizes_same = same_by _ _ (sizes_right ps some spec) (sizes_right qs some' spec) (both_keep _ _ one (λ s. SizesAllowed spec s.size) (sizes_begun spec))

  module _ (gaps : gaps_allowed spec ps ≡ true) where
    later : (i : ℕ) → 1 ≤ (cycle_run ps).gap i
    later i = judged_later spec judges.gaps ((cycle_run ps).gap i) ((gaps_right ps some spec).0 gaps i)

    later' : (i : ℕ) → 1 ≤ (cycle_run qs).gap i
    later' = rw one.there (later_begun (cycle_run ps) later one.k)

    supply_same : (r : Option Rate) → supply_kept r ps ≡ supply_kept r qs
    supply_same r =
        same_by _ _ (supply_right ps some later r) (supply_right qs some' later' r) (
          λ h. rw one.there (supply_begun (cycle_run ps) later one.k r h),
          λ h. rw one.back (supply_begun (cycle_run qs) later' one.k' r h),
        )

    demand_same : (r : Option Rate) → demand_met r ps ≡ demand_met r qs
    demand_same r =
        same_by _ _ (demand_right ps some later r) (demand_right qs some' later' r) (
          λ h. rw one.there (demand_begun (cycle_run ps) later one.k r h),
          λ h. rw one.back (demand_begun (cycle_run qs) later' one.k' r h),
        )

  cycle_same : length ps ≤ 512 → length qs ≤ 512 → cycle_number spec ps ≡ cycle_number spec qs
  unfolding cycle_number
  cycle_same few few' =
      rw (count_right (length ps) some few, count_right (length qs) some' few', ← gaps_same, ← sizes_same)
      (same_refusal true (gaps_allowed spec ps) (sizes_allowed spec ps) _ _ _ _ (λ g. supply_same g spec.supply) (λ g. demand_same g spec.demand))

-- so every check gives a cycle and its normal form the same number
module _ (ps : List Pair) (some : 1 ≤ length ps) (few : length ps ≤ 512) where
  judged_same : (spec : Spec) → Judges spec → cycle_number spec (normal_form ps) ≡ cycle_number spec ps
  judged_same spec judges =
      let back = run_normal ps some in
      let one : OneRun (cycle_run ps) (cycle_run (normal_form ps)) = record { k = _; k' = back.0; there = normal_run ps some; back = back.1 } in
      sym (cycle_same ps (normal_form ps) some (normal_some ps some) one spec judges few (omega (arith, normal_short ps some)))

  pub late_same : (spec : Spec) (lateness : ℕ) → late_number spec lateness (normal_form ps) ≡ late_number spec lateness ps
  late_same spec lateness = pick (planned_for spec lateness) refl
    where
      pick : (planned : Result Spec ℕ) → planned_for spec lateness ≡ planned → late_number spec lateness (normal_form ps) ≡ late_number spec lateness ps
      pick (Ok planned) e =
          sym (against_number spec lateness planned (normal_form ps) e)
          ∙ judged_same planned (against_judges spec lateness planned e)
          ∙ against_number spec lateness planned ps e
      pick (Err n) e = sym (refused_number spec lateness n (normal_form ps) e) ∙ refused_number spec lateness n ps e

  pub check_same : (spec : Spec) → check_number spec (normal_form ps) ≡ check_number spec ps
  check_same spec = sym (on_time_same spec (normal_form ps)) ∙ late_same spec 0 ∙ on_time_same spec ps

  -- against a specification's file too
  pub late_file_same : (read : Result Spec ℕ) (lateness : ℕ) → late_file_number read lateness (normal_form ps) ≡ late_file_number read lateness ps
  unfolding late_file_number
  late_file_same (Ok spec) lateness = late_same spec lateness
  late_file_same (Err n) lateness = refl

  pub check_file_same : (read : Result Spec ℕ) → check_file_number read (normal_form ps) ≡ check_file_number read ps
  unfolding check_file_number
  check_file_same (Ok spec) = check_same spec
  check_file_same (Err n) = refl
