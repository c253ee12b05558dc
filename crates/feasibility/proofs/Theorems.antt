-- The theorems of specs/Statements.antt, and what the demands' page says of the test.
use Prim.Native.Nat.{ℕ, ◌≤◌}
use native.Mathlib.Omega.{arith}
use mathlib.Core.Path.{◌≡◌, refl, sym, ◌∙◌, ap}
use mathlib.Core.Logic.{◌↔◌, ◌⊎◌, inl, inr, ⊎_elim}
use mathlib.Core.Bool.{true, false}
use Rattle.std.specs.Prelude.{Result, Ok, Err}
use Rattle.spec.specs.declared.Spec.{Spec}
use Rattle.spec.specs.declared.Rates.{Rates}
use Rattle.spec.specs.Limits.{IsAccepted}
use Rattle.spec.specs.Rates.{HasTwoRanges, both_rates, started, if_rates}
use Rattle.spec.proofs.GoingOn.{started_both, started_numbers, rates_tell_25}
use Rattle.spec.proofs.KnownRates.{known}
use Rattle.schedule.specs.Rules.{Obeys}
use Rattle.plan.specs.declared.Plan.{Plan}
use Rattle.plan.specs.Plans.{proper, run}
use Rattle.consistency.specs.Consistency.{Failing, inconsistent, refused, consistency_of}
use Rattle.consistency.proofs.Conditions.{one_range_no_number}
use Rattle.families.specs.declared.Scheduled.{Scheduled}
use Rattle.families.specs.Families.{schedule_of}
use Rattle.families.proofs.Schedules.{found_at, some_at}
use Rattle.feasibility.specs.Test.{family_of, taken, figure_passes, test_consistent, test_of, BestOfAll}
use Rattle.feasibility.specs.Statements.{TestPasses, TestNotPassed, CountsExact}
use Rattle.feasibility.proofs.Counts.{exists_iff}
use Rattle.feasibility.proofs.Obeying.{obeys}
use Rattle.feasibility.proofs.Outcomes.{passes_or_9, unique, best_taken, answered, passed_consistent, nine_consistent}

pub test_passes : TestPasses
test_passes s q plan v e = (
  λ x.
      let h = passed_consistent s q e plan v x in
      ⊎_elim
      (λ (is, ok).
      let same : taken (family_of q) s q ≡ schedule_of plan v = let told = sym is ∙ x in cc in
      let p : (taken (family_of q) s q).plan ≡ plan = ap (λ (t : Scheduled). t.plan) same in
      let w : (taken (family_of q) s q).supply ≡ v = ap (λ (t : Scheduled). t.supply) same in
      (h, rw (← p, ← w) (best_taken s q e h), rw (← w) ok))
      (λ (is, failed). cc)
      (answered s q e h),
  λ (h, best, passes).
      let same = unique (family_of q) s (best_taken s q e h) best in
      let w : (taken (family_of q) s q).supply ≡ v = ap (λ (t : Scheduled). t.supply) same in
      ⊎_elim
      (λ (is, ok). is ∙ ap Ok same)
      (λ (is, failed). cc)
      (answered s q e h),
)

pub test_not_passed : TestNotPassed
test_not_passed s q e = (
  λ x.
      let h = nine_consistent s q e x in
      ⊎_elim
      (λ (is, ok). cc)
      (λ (is, failed). (h, (_, _, best_taken s q e h, failed)))
      (answered s q e h),
  λ (h, (plan, v, best, fails)).
      let same = unique (family_of q) s (best_taken s q e h) best in
      let w : (taken (family_of q) s q).supply ≡ v = ap (λ (t : Scheduled). t.supply) same in
      ⊎_elim
      (λ (is, ok). cc)
      (λ (is, failed). is)
      (answered s q e h),
)

-- A consistent specification with both rates has a best of all k, which the test passes where its figure passes; else it gives 9.
pub test_finds : (s : Spec) (q : Rates) → both_rates s ≡ Ok q → consistency_of s ≡ Ok tt
    → (plan : Plan) × (v : ℕ) × BestOfAll (family_of q) s plan v
    × (((test_of s ≡ Ok (schedule_of plan v)) × (figure_passes (family_of q) q v ≡ true)) ⊎ ((test_of s ≡ Err (refused 9)) × (figure_passes (family_of q) q v ≡ false)))
test_finds s q e h = (_, _, best_taken s q e h, answered s q e h)

pub counts_exact : CountsExact
counts_exact s q f k start =
    let n = known s q start in (
      λ (plan, v, x). (exists_iff s q n f k).0 (found_at f s q k plan v n.both x).at.there,
      λ h. (_, _, some_at f s q k n ((exists_iff s q n f k).1 h)),
    )

-- The test passes a plan only where it begins, with both rates: so only for an accepted specification.
begun : (s : Spec) (plan : Plan) (v : ℕ) → test_of s ≡ Ok (schedule_of plan v) → (q : Rates) × (started s ≡ Ok q)
unfolding test_of
begun s plan v x = pick (started s) refl x
  where
    pick : (r : Result Rates ℕ) → started s ≡ r → if_rates r (λ q. test_consistent (consistency_of s) s q) (λ n. Err (refused n)) ≡ Ok (schedule_of plan v) → (q : Rates) × (started s ≡ Ok q)
    pick (Err n) e y = cc
    pick (Ok q) e y = (q, e)

pub test_accepted : (s : Spec) (plan : Plan) (v : ℕ) → test_of s ≡ Ok (schedule_of plan v) → IsAccepted s
test_accepted s plan v x = let b = begun s plan v x in (known s b.0 b.1).accepted

-- The plan that it passes is proper, and its endless run obeys the four rules.
pub test_sound : (s : Spec) (plan : Plan) (v : ℕ) → test_of s ≡ Ok (schedule_of plan v) → (proper plan ≡ true) × Obeys s (run plan)
test_sound s plan v x =
    let b = begun s plan v x in
    let q = b.0 in
    let both = (started_both s q b.1).1 in
    let h = (test_passes s q plan v both).0 x in
    let g = found_at (family_of q) s q plan.count plan v both h.1.schedule in
    (g.ok, obeys s q plan.count plan v (family_of q) g h.2)

-- Once both rates are there, no number but 9 is told.
only_9 : (s : Spec) (q : Rates) → started s ≡ Ok q → (n : ℕ) (c : Result (Unit {0}) Failing) → consistency_of s ≡ c → test_consistent c s q ≡ Err (refused n) → n ≡ 9
unfolding test_consistent
only_9 s q start n (Ok u) h x =
    ⊎_elim
    (λ (is, ok). absurd (let same = sym is ∙ x in cc))
    (λ (is, failed). let same = sym is ∙ x in cc)
    (passes_or_9 (family_of q) q (taken (family_of q) s q))
only_9 s q start n (Err (inconsistent c)) h x = cc
only_9 s q start n (Err (refused m)) h x = absurd (one_range_no_number s (started_both s q start).0 m h)

pub test_numbers : (s : Spec) (n : ℕ) → test_of s ≡ Err (refused n) → ((3 ≤ n) × (n ≤ 5)) ⊎ ((n ≡ 9) ⊎ ((24 ≤ n) × (n ≤ 25)))
unfolding test_of
test_numbers s n x = pick (started s) refl x
  where
    pick : (r : Result Rates ℕ) → started s ≡ r → if_rates r (λ q. test_consistent (consistency_of s) s q) (λ n. Err (refused n)) ≡ Err (refused n) → ((3 ≤ n) × (n ≤ 5)) ⊎ ((n ≡ 9) ⊎ ((24 ≤ n) × (n ≤ 25)))
    pick (Err m) e y = let z : m ≡ n = cc in ⊎_elim (λ h. inl (omega arith, omega arith)) (λ h. inr (inr (omega arith, omega arith))) (started_numbers s m e)
    pick (Ok q) e y = inr (inl (only_9 s q e n (consistency_of s) refl y))

-- 25 is given exactly to an accepted specification with a second range.
pub test_25 : (s : Spec) → (test_of s ≡ Err (refused 25)) ↔ HasTwoRanges s
unfolding test_of
test_25 s =
    rates_tell_25 s (λ q. test_consistent (consistency_of s) s q) (λ n. Err (refused n)) (λ n e. cc)
    (λ q start x. let z = only_9 s q start 25 (consistency_of s) refl x in omega arith)
