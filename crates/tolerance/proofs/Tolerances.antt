-- The tolerance of a cycle and the most tolerant plan, by the check with lateness and by the box plan. A cycle that passes for a lateness
-- passes for each smaller one (`late_less`), so a box plan for a lateness is a reason that there is one for each smaller lateness: its
-- cycle, with one gap throughout, passes there. Both can be found by bisection, then, and what it says of them is what is said here.
use Prim.Native.Nat.{ℕ, ◌+◌, ◌≤◌}
use native.Mathlib.Omega.{arith}
use mathlib.Core.Path.{◌≡◌, refl, sym, ◌∙◌, ap, subst}
use mathlib.Core.Logic.{◌↔◌, ⊎_elim}
use mathlib.Core.Bool.{true}
use mathlib.Core.List.{List}
use Rattle.std.specs.Prelude.{⊤, Result, Ok, Err, is_ok, IsOkAnd, MatchResult}
use Rattle.spec.specs.declared.Spec.{Spec}
use Rattle.spec.specs.Limits.{if_none}
use Rattle.spec.specs.declared.refusal.Refusal.{Refusal}
use Rattle.spec.specs.Refusals.{numbered, answer_number}
use Rattle.spec.proofs.Refusals.{refused_some}
use Rattle.spec.proofs.GoingOn.{none_or, goes_on, stops}
use Rattle.pairs.specs.declared.Pair.{Pair}
use Rattle.pairs.specs.Pairs.{that_fit}
use Rattle.plan.specs.declared.Plan.{Plan}
use Rattle.cycle.specs.Check.{check_number}
use Rattle.cycle.specs.LateCheck.{late_number}
use Rattle.cycle.proofs.Numbers.{fit_late}
use Rattle.cycle.proofs.Planned.{on_time_same}
use Rattle.cycle.proofs.LatePassed.{late_less, passed_late}
use Rattle.planfile.specs.PlanFile.{plan_pairs}
use Rattle.boxplan.specs.BoxPlan.{box_plan}
use Rattle.boxplan.specs.OneGapCycles.{OneGapCycle, plan_gap}
use Rattle.boxplan.proofs.BoxPlans.{BestFor, box_plan_best, box_plan_refused, goes_30}
use Rattle.tolerance.specs.declared.Late.{Late}
use Rattle.tolerance.specs.Tolerance.{most_late, passing, lateness_of, tolerance, tolerant_plan}
use Rattle.tolerance.proofs.Bisection.{Finds, FoundBelow, Known, finds_none, known_last, most_found, most_refused}

-- what the code keeps of the largest, its lateness alone
pub lateness_told : {A : Type 0} (best : Result (Late A) Refusal) (r : Result ℕ Refusal)
    → MatchResult best (λ t. IsOkAnd r (λ l. l ≡ t.lateness)) (λ e. r ≡ Err e) → numbered r ≡ lateness_of (numbered best)
lateness_told (Ok t) (Ok l) told = ap Ok told
lateness_told (Ok t) (Err e) told = absurd told
lateness_told (Err e) r told = ap numbered told

-- ---- The check as a question
abbrev passed : Result ⊤ ℕ
passed = Ok tt

module _ (spec : Spec) (ps : List Pair) where
  passes_found : (j : ℕ) → late_number spec j ps ≡ 0 → Finds (passing spec ps) j
  unfolding passing
  passes_found j e = rw (goes_on (late_number spec j ps) passed Err e) refl

  refused_told : (j : ℕ) → ¬ (late_number spec j ps ≡ 0) → passing spec ps j ≡ Err (late_number spec j ps)
  unfolding passing
  refused_told j h = stops (late_number spec j ps) passed Err h

  found_passes : (j : ℕ) → Finds (passing spec ps) j → late_number spec j ps ≡ 0
  found_passes j h = ⊎_elim (λ z. z) (λ some. absurd (finds_none (passing spec ps) j (late_number spec j ps) (refused_told j some) h)) (none_or (late_number spec j ps))

  -- what the code's check answers
  pub check_told : (answer : Result ⊤ Refusal) (j : ℕ) → answer_number answer ≡ late_number spec j ps → numbered answer ≡ passing spec ps j
  unfolding passing
  check_told (Ok x) j e = sym (goes_on (late_number spec j ps) passed Err (sym e))
  check_told (Err r) j e = sym (stops (late_number spec j ps) passed Err (λ z. refused_some r (late_number spec j ps) e z) ∙ ap Err (sym e))

  pub check_found_below : FoundBelow (passing spec ps)
  check_found_below = record {
    smaller = λ i j h e. passes_found i (late_less spec i j ps h (found_passes j e));
    few = λ j e. (passed_late spec j ps (found_passes j e)).1;
  }

  -- ---- The tolerance of a cycle: it passes exactly for each lateness up to that
  is_by : (most : ℕ) (r : Result (Late ⊤) ℕ) → most_late (passing spec ps) ≡ r → lateness_of r ≡ Ok most
      → (most ≤ 1440) × ((j : ℕ) → (late_number spec j ps ≡ 0) ↔ (j ≤ most))
  is_by most (Ok t) told e =
      let f = most_found (passing spec ps) check_found_below t told in
      let same : t.lateness ≡ most = cc in
      subst (λ (m : ℕ). (m ≤ 1440) × ((j : ℕ) → (late_number spec j ps ≡ 0) ↔ (j ≤ m))) same
      (f.0, λ j. (λ z. (f.2 j).0 (passes_found j z), λ h. found_passes j ((f.2 j).1 h)))
  is_by most (Err n) told e = cc

  pub tolerance_is : (most : ℕ) → tolerance spec ps ≡ Ok most → (most ≤ 1440) × ((j : ℕ) → (late_number spec j ps ≡ 0) ↔ (j ≤ most))
  unfolding tolerance
  tolerance_is most e = is_by most (most_late (passing spec ps)) refl e

  -- where it passes for a lateness and not for the next, that is the tolerance
  tolerance_found : (most : ℕ) → late_number spec most ps ≡ 0 → ¬ (late_number spec (most + 1) ps ≡ 0) → tolerance spec ps ≡ Ok most
  unfolding tolerance passing
  tolerance_found most e none =
      let known : Known (passing spec ps) 1 (Ok (record { lateness = most; found = tt })) = (goes_on (late_number spec most ps) passed Err e, λ h. none (found_passes (most + 1) h)) in
      sym (ap lateness_of (known_last (passing spec ps) check_found_below (Ok (record { lateness = most; found = tt })) known))

  -- it is refused exactly where the check of reports on time is, for the same
  on_time_refused : (n : ℕ) → passing spec ps 0 ≡ Err n → (check_number spec ps ≡ n) × ¬ (n ≡ 0)
  unfolding passing
  on_time_refused n e =
      ⊎_elim
      (λ z. let h = sym (goes_on (late_number spec 0 ps) passed Err z) ∙ e in cc)
      (λ some.
      let told = sym (stops (late_number spec 0 ps) passed Err some) ∙ e in
      let same : late_number spec 0 ps ≡ n = cc in
      (sym (on_time_same spec ps) ∙ same, λ z. some (same ∙ z)))
      (none_or (late_number spec 0 ps))

  refused_by : (n : ℕ) (r : Result (Late ⊤) ℕ) → most_late (passing spec ps) ≡ r → lateness_of r ≡ Err n → (check_number spec ps ≡ n) × ¬ (n ≡ 0)
  refused_by n (Ok t) told e = cc
  refused_by n (Err m) told e = let same : Err m ≡ Err n = e in on_time_refused n ((most_refused (passing spec ps) check_found_below n).0 (told ∙ cc))

  pub tolerance_refused : (n : ℕ) → (tolerance spec ps ≡ Err n) ↔ ((check_number spec ps ≡ n) × ¬ (n ≡ 0))
  unfolding tolerance
  tolerance_refused n = (
    λ e. refused_by n (most_late (passing spec ps)) refl e,
    λ h.
        let same = on_time_same spec ps ∙ h.0 in
        ap lateness_of ((most_refused (passing spec ps) check_found_below n).1 (refused_told 0 (λ z. h.1 (sym same ∙ z)) ∙ ap Err same)),
  )

  -- more than 512 pairs have that of none
  pub fit_tolerance : tolerance spec (that_fit 512 ps) ≡ tolerance spec ps
  unfolding tolerance passing
  fit_tolerance =
      ap (λ (ask : ℕ → Result ⊤ ℕ). lateness_of (most_late ask)) (λ x j. ap (λ (n : ℕ). if_none n passed Err) (fit_late spec j ps) x)

-- ---- The box plan as a question
module _ (spec : Spec) where
  -- there is one wherever a cycle with one gap throughout passes
  box_found : (j g : ℕ) (c : List Pair) → OneGapCycle g c → late_number spec j c ≡ 0 → Finds (box_plan spec) j
  box_found j g c one passes = by_told (box_plan spec j) refl
    where
      by_told : (r : Result Plan ℕ) → box_plan spec j ≡ r → is_ok r ≡ true
      by_told (Ok p) e = refl
      by_told (Err n) e =
          let k = passed_late spec j c passes in
          absurd ((box_plan_refused spec j k.0 k.1).0 (e ∙ ap Err (goes_30 spec j k.0 k.1 n e)) g c one passes)

  found_best : (j : ℕ) → Finds (box_plan spec) j → (p : Plan) × BestFor spec j p
  found_best j h = by_told (box_plan spec j) refl
    where
      by_told : (r : Result Plan ℕ) → box_plan spec j ≡ r → (p : Plan) × BestFor spec j p
      by_told (Ok p) e = (p, box_plan_best spec j p e)
      by_told (Err n) e = absurd (finds_none (box_plan spec) j n e h)

  pub box_found_below : FoundBelow (box_plan spec)
  box_found_below = record {
    smaller = λ i j h e.
        let p = found_best j e in
        box_found i (plan_gap p.0) (plan_pairs p.0) p.1.has_one_gap (late_less spec i j (plan_pairs p.0) h p.1.passes);
    few = λ j e. let p = found_best j e in (passed_late spec j (plan_pairs p.0) p.1.passes).1;
  }

  -- ---- The most tolerant plan: the box plan for its lateness, and no cycle with one gap throughout passes for a greater one
  pub tolerant_is : (t : Late Plan) → tolerant_plan spec ≡ Ok t
      → (t.lateness ≤ 1440) × (box_plan spec t.lateness ≡ Ok t.found)
      × ((lateness g : ℕ) (c : List Pair) → OneGapCycle g c → late_number spec lateness c ≡ 0 → lateness ≤ t.lateness)
  unfolding tolerant_plan
  tolerant_is t e =
      let f = most_found (box_plan spec) box_found_below t e in
      (f.0, f.1, λ lateness g c one passes. (f.2 lateness).0 (box_found lateness g c one passes))

  -- it is refused exactly where the box plan of reports on time is, for the same
  pub tolerant_refused : (n : ℕ) → (tolerant_plan spec ≡ Err n) ↔ (box_plan spec 0 ≡ Err n)
  unfolding tolerant_plan
  tolerant_refused n = most_refused (box_plan spec) box_found_below n

  -- the tolerance of its cycle is its lateness
  pub tolerant_tolerance : (t : Late Plan) → tolerant_plan spec ≡ Ok t → tolerance spec (plan_pairs t.found) ≡ Ok t.lateness
  tolerant_tolerance t e =
      let k = tolerant_is t e in
      let best = box_plan_best spec t.lateness t.found k.1 in
      tolerance_found spec (plan_pairs t.found) t.lateness best.passes
      (λ more. omega (arith, k.2 (t.lateness + 1) (plan_gap t.found) (plan_pairs t.found) best.has_one_gap more))
