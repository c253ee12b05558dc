-- The box plan that is given is proper, and its cycle passes the check with its lateness; no cycle with one gap throughout that passes does
-- better; and 30 is given exactly where none passes. A cycle passes for a lateness exactly where its run obeys what planned minutes must
-- meet, and the run of one with one gap is a schedule of sizes that repeat at that gap: so what proofs/PairsFit.antt says of these is
-- said of it.
use Prim.Native.Nat.{ℕ, ◌-◌, ◌%◌, ◌≤◌, ◌<◌}
use native.Mathlib.Omega.{arith}
use native.Mathlib.Nat.{le-mul_of_pos_right, mul-le-mul_right, le_trans, mul-mod_right, mul_comm, mul-div_cancel_left, mod-lt}
use mathlib.Core.Path.{◌≡◌, refl, sym, ◌∙◌, ap, subst}
use mathlib.Core.Logic.{◌↔◌, ⊎_elim}
use mathlib.Core.Bool.{true, ◌&&◌, and-eq-true_iff}
use mathlib.Core.List.{List}
use lib.ListN.{length}
use Rattle.std.specs.Prelude.{Option, None, Some, Ok, Err}
use Rattle.numbers.proofs.Cases.{lt_cases}
use Rattle.numbers.proofs.Tests.{not_both}
use Rattle.spec.specs.declared.Rate.{Rate}
use Rattle.spec.specs.declared.Spec.{Spec}
use Rattle.spec.specs.Limits.{IsAccepted, rate_limits, gap_allowed, gap_top}
use Rattle.spec.proofs.Facts.{leb_iff, facts, allowed_top}
use Rattle.spec.proofs.GoingOn.{none_or}
use Rattle.schedule.specs.Schedules.{Schedule}
use Rattle.schedule.specs.Rules.{Obeys, TimedObeys}
use Rattle.lateness.specs.Delays.{EveryDelay}
use Rattle.lateness.specs.Lateness.{late_demand, lateness_number}
use Rattle.lateness.specs.PlannedSpec.{planned_spec}
use Rattle.lateness.proofs.Begins.{begins_0, begins_26, begins_iff, begins_26_iff}
use Rattle.lateness.proofs.EverySchedule.{late_planned}
use Rattle.lateness.proofs.PlannedSpec.{planned_range, planned_rises}
use Rattle.pairs.specs.declared.Pair.{Pair}
use Rattle.plan.specs.declared.Plan.{Plan}
use Rattle.plan.specs.Plans.{even_size, proper, run, kind_run}
use Rattle.plan.proofs.Proper.{ProperBounds, proper_kind}
use Rattle.even.specs.Even.{evenly, even_plan}
use Rattle.even.proofs.Search.{Largest, largest_right}
use Rattle.even.proofs.EvenPlans.{even_plan_refused}
use Rattle.cycle.specs.Cycles.{cycle_run, round_records}
use Rattle.cycle.specs.LateCheck.{late_number}
use Rattle.cycle.proofs.Runs.{size_again, pair_gap_lem}
use Rattle.cycle.proofs.CyclesPassed.{passed_obeys}
use Rattle.cycle.proofs.Planned.{on_time_same}
use Rattle.cycle.proofs.LatePassed.{late_passed, late_less}
use Rattle.planfile.specs.PlanFile.{plan_pairs}
use Rattle.planfile.proofs.Written.{plan_written}
use Rattle.boxplan.specs.BoxPlan.{fewest_pairs, can_load, box_gap, box_plan_at, plan_or30, box_plan}
use Rattle.boxplan.specs.OneGapCycles.{OneGapCycle, plan_gap}
use Rattle.boxplan.proofs.Search.{loads_fit, fit_loads}
use Rattle.boxplan.proofs.Cases.{at_none, at_some, begins_planned, begins_stopped}
use Rattle.boxplan.proofs.PairsFit.{Plans, Fitting, records_at, fitting_iff, shared, fitting_obeys, records_least, obeys_fitting}

-- planned minutes need as many records as the given ones, in no more minutes
pub planned_demand : (lateness : ℕ) (given : Option Rate) → rate_limits given ≡ true → (x : Rate) → late_demand lateness given ≡ Some x
    → (1 ≤ x.records) × (x.minutes ≤ 20160)
unfolding rate_limits late_demand
planned_demand lateness None limits x e = cc
planned_demand lateness (Some y) limits x e =
    let k = simp (and-eq-true_iff, leb_iff) at limits in
    let records : y.records ≡ x.records = let h = e in cc in
    let minutes : y.minutes - lateness ≡ x.minutes = let h = e in cc in
    (omega arith, omega arith)

planned_plans : (spec : Spec) → IsAccepted spec → (lateness : ℕ) → Plans (planned_spec spec lateness)
unfolding planned_spec
planned_plans spec accepted lateness =
    let f = facts spec accepted in
    record {
      size_low = f.size_low;
      size_high = f.size_high;
      range = planned_range spec accepted lateness;
      rises = planned_rises spec accepted lateness;
      needs = λ x e. (planned_demand lateness spec.demand f.demand x e).0;
    }

-- what is promised of the plan that is given
pub record BestFor (spec : Spec) (lateness : ℕ) (p : Plan) : Type 0 where
  pub is_proper : proper p ≡ true
  pub has_one_gap : OneGapCycle (plan_gap p) (plan_pairs p)
  pub passes : late_number spec lateness (plan_pairs p) ≡ 0
  pub obeys : EveryDelay lateness (run p) (TimedObeys spec)
  pub longest : (g : ℕ) (c : List Pair) → OneGapCycle g c → late_number spec lateness c ≡ 0 → g ≤ plan_gap p
  pub fewest : (c : List Pair) → OneGapCycle (plan_gap p) c → late_number spec lateness c ≡ 0
      → (p.count ≤ length c) × (length c ≡ p.count → p.total ≤ round_records c)

-- ---- The plan at an allowed gap at which some number of pairs will do
module _ (s : Spec) (known : Plans s) (g : ℕ) (allowed : gap_allowed s g ≡ true) (loads : can_load s g ≡ true) where
  abbrev count : ℕ
  count = fewest_pairs s g

  fit : Fitting s g count
  fit = (fitting_iff s g count).0 (loads_fit s g loads).0

  some : 1 ≤ count
  some = (loads_fit s g loads).1

  few : count ≤ 512
  few = (loads_fit s g loads).2

  bounds : ProperBounds (box_plan_at s g)
  unfolding box_plan_at
  bounds =
      let range = known.range g allowed in
      record {
        some = some;
        few = omega (arith, few);
        long = le-mul_of_pos_right count range.0;
        short = rw mul_comm (mul-le-mul_right count range.1);
        full = le_trans (le-mul_of_pos_right count known.size_low) (shared s g count fit).0;
        light = le_trans fit.high (rw mul_comm (mul-le-mul_right count known.size_high));
      }

  at_proper : proper (box_plan_at s g) ≡ true
  unfolding box_plan_at
  at_proper = sym (proper_kind (box_plan_at s g) bounds refl) ∙ rw (mul-mod_right count g)

  at_gap : plan_gap (box_plan_at s g) ≡ g
  unfolding box_plan_at
  at_gap = mul-div_cancel_left g some

  at_run : run (box_plan_at s g) ≡ evenly g (even_size count (records_at s g count))
  unfolding box_plan_at run kind_run
  at_run = rw (mul-div_cancel_left g some)

  at_obeys : Obeys s (run (box_plan_at s g))
  at_obeys = rw at_run (fitting_obeys s g count fit (known.range g allowed).0 allowed some)

  run_gap : (i : ℕ) → (run (box_plan_at s g)).gap i ≡ plan_gap (box_plan_at s g)
  unfolding box_plan_at run kind_run
  run_gap i = refl

  at_few : (box_plan_at s g).count ≤ 512
  unfolding box_plan_at
  at_few = few

  -- the cycle of its reports has one gap, and its run obeys
  at_cycle : OneGapCycle (plan_gap (box_plan_at s g)) (plan_pairs (box_plan_at s g))
  at_cycle =
      let p = box_plan_at s g in
      let written = plan_written p at_proper in
      record {
        some = omega (arith, written.0, bounds.some);
        few = omega (arith, written.0, at_few);
        gaps = λ j h. sym (pair_gap_lem (plan_pairs p) j h) ∙ ap (λ (x : Schedule). x.gap j) written.1 ∙ run_gap j;
      }

  at_cycle_obeys : Obeys s (cycle_run (plan_pairs (box_plan_at s g)))
  at_cycle_obeys = subst (Obeys s) (sym (plan_written (box_plan_at s g) at_proper).1) at_obeys

-- ---- A cycle with the gap g throughout: its run is the schedule of its sizes at that gap
module _ (g : ℕ) (c : List Pair) (one : OneGapCycle g c) where
  gap_is : (i : ℕ) → (cycle_run c).gap i ≡ g
  unfolding cycle_run
  gap_is i = one.gaps (i % length c) (mod-lt i one.some)

  one_gap : cycle_run c ≡ evenly g (cycle_run c).size
  one_gap = λ x. record { size = (cycle_run c).size; gap = λ i. gap_is i x }

-- where its run obeys, it is no better than the arithmetic
module _ (s : Spec) (known : Plans s) (g : ℕ) (c : List Pair) (one : OneGapCycle g c) (obeys : Obeys s (cycle_run c)) where
  obeys_one : Obeys s (evenly g (cycle_run c).size)
  obeys_one = subst (Obeys s) (one_gap g c one) obeys

  allowed : gap_allowed s g ≡ true
  allowed = obeys_one.gaps 0

  pairs_least : (can_load s g ≡ true) × (fewest_pairs s g ≤ length c)
  pairs_least =
      fit_loads s g (length c) one.some one.few
      ((fitting_iff s g (length c)).1 (obeys_fitting s known g (cycle_run c).size (length c) (size_again c) obeys_one))

  round_least : records_at s g (length c) ≤ round_records c
  unfolding round_records
  round_least = records_least s known g (cycle_run c).size (length c) (size_again c) obeys_one

  -- of the plan at its own gap it has neither fewer pairs nor, with as many pairs, fewer records
  best_at : ((box_plan_at s g).count ≤ length c) × (length c ≡ (box_plan_at s g).count → (box_plan_at s g).total ≤ round_records c)
  unfolding box_plan_at
  best_at = (pairs_least.1, λ e. rw (← e) round_least)

-- ---- The gap at which the search ends
module _ (s : Spec) where
  search_right : Largest (λ g. gap_allowed s g && can_load s g) (gap_top s) (box_gap s)
  unfolding box_gap
  search_right = largest_right (λ g. gap_allowed s g && can_load s g) (gap_top s)

  gap_right : 0 < box_gap s → (gap_allowed s (box_gap s) ≡ true) × (can_load s (box_gap s) ≡ true)
  gap_right h = (and-eq-true_iff _ _).0 (search_right.passes h).0

  -- no longer one is allowed at which some number of pairs will do
  gap_longest : Plans s → (g : ℕ) → gap_allowed s g ≡ true → can_load s g ≡ true → g ≤ box_gap s
  gap_longest known g allowed loads =
      ⊎_elim
      (λ longer. absurd (not_both _ ((and-eq-true_iff _ _).1 (allowed, loads)) (search_right.above g longer (allowed_top s known.rises g allowed))))
      (λ h. h)
      (lt_cases (box_gap s) g)

-- ---- With lateness, for an accepted specification and at most 1,440 minutes: a cycle passes exactly where its run obeys what planned minutes
-- must meet
module _ (spec : Spec) (lateness : ℕ) (accepted : IsAccepted spec) (few : lateness ≤ 1440) where
  abbrev planned : Spec
  planned = planned_spec spec lateness

  known : Plans planned
  known = planned_plans spec accepted lateness

  goes : box_plan spec lateness ≡ plan_or30 planned (box_gap planned)
  goes = begins_planned spec lateness (begins_0 spec lateness accepted few)

  module _ (g : ℕ) (c : List Pair) (one : OneGapCycle g c) where
    passes_planned : (late_number spec lateness c ≡ 0) ↔ Obeys planned (cycle_run c)
    passes_planned =
        let passed = late_passed spec lateness c accepted few one.some one.few in
        let met = late_planned spec lateness (cycle_run c) accepted in
        (λ e. met.0 (passed.0 e), λ o. passed.1 (met.1 o))

    -- one with one gap throughout that passes has a gap no longer than the longest
    passes_within : late_number spec lateness c ≡ 0 → (0 < g) × (g ≤ box_gap planned)
    passes_within e =
        let obeys = passes_planned.0 e in
        let ok = allowed planned known g c one obeys in
        ((known.range g ok).0, gap_longest planned known g ok (pairs_least planned known g c one obeys).0)

  -- the plan at the longest gap, where there is one
  module _ (some_gap : 0 < box_gap planned) where
    abbrev found : Plan
    found = box_plan_at planned (box_gap planned)

    right : (gap_allowed planned (box_gap planned) ≡ true) × (can_load planned (box_gap planned) ≡ true)
    right = gap_right planned some_gap

    found_gap : plan_gap found ≡ box_gap planned
    found_gap = at_gap planned known (box_gap planned) right.0 right.1

    found_cycle : OneGapCycle (plan_gap found) (plan_pairs found)
    found_cycle = at_cycle planned known (box_gap planned) right.0 right.1

    found_passes : late_number spec lateness (plan_pairs found) ≡ 0
    found_passes = (passes_planned _ _ found_cycle).1 (at_cycle_obeys planned known (box_gap planned) right.0 right.1)

    found_best : BestFor spec lateness found
    found_best = record {
      is_proper = at_proper planned known (box_gap planned) right.0 right.1;
      has_one_gap = found_cycle;
      passes = found_passes;
      obeys = (late_planned spec lateness (run found) accepted).1 (at_obeys planned known (box_gap planned) right.0 right.1);
      longest = λ g c one e. omega (arith, found_gap, (passes_within g c one e).1);
      fewest = λ c one e.
          subst (λ (g : ℕ). ((box_plan_at planned g).count ≤ length c) × (length c ≡ (box_plan_at planned g).count → (box_plan_at planned g).total ≤ round_records c)) found_gap
          (best_at planned known (plan_gap found) c one ((passes_planned (plan_gap found) c one).0 e));
    }

  -- 30 exactly where no cycle with one gap throughout passes
  pub box_plan_refused : (box_plan spec lateness ≡ Err 30) ↔ ((g : ℕ) (c : List Pair) → OneGapCycle g c → ¬ (late_number spec lateness c ≡ 0))
  box_plan_refused = (
    λ e g c one passes.
        let within = passes_within g c one passes in
        absurd (let h = sym (goes ∙ at_some planned (box_gap planned) (omega (arith, within.0, within.1))) ∙ e in cc),
    λ none.
        ⊎_elim
        (λ pos. absurd (none _ _ (found_cycle pos) (found_passes pos)))
        (λ zero. goes ∙ at_none planned (box_gap planned) (omega arith))
        (lt_cases 0 (box_gap planned)),
  )

  -- so what is given is the plan at the longest gap, and no other refusal
  goes_best : (p : Plan) → box_plan spec lateness ≡ Ok p → BestFor spec lateness p
  goes_best p e =
      let told = sym goes ∙ e in
      ⊎_elim
      (λ pos. let same : found pos ≡ p = let h = sym (at_some planned (box_gap planned) pos) ∙ told in cc in subst (BestFor spec lateness) same (found_best pos))
      (λ zero. let h = sym (at_none planned (box_gap planned) (omega arith)) ∙ told in cc)
      (lt_cases 0 (box_gap planned))

  pub goes_30 : (n : ℕ) → box_plan spec lateness ≡ Err n → n ≡ 30
  goes_30 n e =
      let told = sym goes ∙ e in
      ⊎_elim
      (λ pos. let h = sym (at_some planned (box_gap planned) pos) ∙ told in cc)
      (λ zero. let h = sym (at_none planned (box_gap planned) (omega arith)) ∙ told in cc)
      (lt_cases 0 (box_gap planned))

pub box_plan_best : (spec : Spec) (lateness : ℕ) (p : Plan) → box_plan spec lateness ≡ Ok p → BestFor spec lateness p
box_plan_best spec lateness p e =
    ⊎_elim
    (λ goes. let b = (begins_iff spec lateness).0 goes in goes_best spec lateness b.0 b.1 p e)
    (λ stops. let h = sym (begins_stopped spec lateness stops) ∙ e in cc)
    (none_or (lateness_number spec lateness))

-- 26 exactly for an accepted specification and a lateness above 1,440
pub box_too_late : (spec : Spec) (lateness : ℕ) → (box_plan spec lateness ≡ Err 26) ↔ (IsAccepted spec × (1440 < lateness))
box_too_late spec lateness = (
  λ e.
      ⊎_elim
      (λ goes. let b = (begins_iff spec lateness).0 goes in absurd (omega (arith, goes_30 spec lateness b.0 b.1 26 e)))
      (λ stops. let h = sym (begins_stopped spec lateness stops) ∙ e in (begins_26_iff spec lateness).0 (let same : lateness_number spec lateness ≡ 26 = cc in same))
      (none_or (lateness_number spec lateness)),
  λ h. let n = begins_26 spec lateness h.0 h.1 in begins_stopped spec lateness (λ z. omega arith) ∙ ap Err n,
)

-- Where no gap has an endless list of sizes that obeys, no cycle with one gap passes: reports that are on time are late by no minute.
pub no_even_no_box : (spec : Spec) (lateness : ℕ) → IsAccepted spec → lateness ≤ 1440 → even_plan spec ≡ Err 10 → box_plan spec lateness ≡ Err 30
no_even_no_box spec lateness accepted few e =
    (box_plan_refused spec lateness accepted few).1
    (λ g c one passes.
    let on-time = sym (on_time_same spec c) ∙ late_less spec 0 lateness c (omega arith) passes in
    let obeys = (passed_obeys spec c accepted one.some one.few).0 on-time in
    (even_plan_refused spec accepted).0 e g (cycle_run c).size (subst (Obeys spec) (one_gap g c one) obeys))
