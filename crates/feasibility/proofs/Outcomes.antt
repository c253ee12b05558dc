-- What the test answers. Of a consistent specification with both rates it tests what is taken, and what is taken is the best of all k,
-- of which there is one only. A passed plan and 9 come of nothing else.
use Prim.Native.Nat.{ℕ, ◌≤◌}
use native.Mathlib.Omega.{arith}
use mathlib.Core.Path.{◌≡◌, refl, sym, ◌∙◌, ap}
use mathlib.Core.Logic.{◌⊎◌, inl, inr, ⊎_elim}
use mathlib.Core.Bool.{Bool, true, false}
use Rattle.std.specs.Prelude.{Result, Ok, Err}
use Rattle.spec.specs.declared.Spec.{Spec}
use Rattle.spec.specs.declared.Rates.{Rates}
use Rattle.spec.specs.Rates.{one_range_number, both_rates, started}
use Rattle.spec.proofs.GoingOn.{HasOneRange, none_or, stops, one_range_few, rates_begin, started_at}
use Rattle.spec.proofs.KnownRates.{known}
use Rattle.plan.specs.declared.Plan.{Plan}
use Rattle.consistency.specs.declared.Condition.{Condition}
use Rattle.consistency.specs.Consistency.{Failing, inconsistent, refused, consistency_of}
use Rattle.consistency.proofs.Conditions.{consistent_one_range, one_range_no_number}
use Rattle.families.specs.declared.Family.{Family}
use Rattle.families.specs.declared.Scheduled.{Scheduled}
use Rattle.families.specs.Families.{schedule_of, schedule_for}
use Rattle.feasibility.specs.Test.{family_of, taken, figure_passes, test_taken, test_consistent, test_of, BestOfAll}
use Rattle.feasibility.proofs.Counts.{some_count}
use Rattle.feasibility.proofs.Best.{good_both, taken_best}

-- the answer is the schedule where its figure passes, and 9 where it does not
abbrev PassesOr9 : Family → Rates → Scheduled → Result Scheduled Failing → Type 0
PassesOr9 f q t answer =
    ((answer ≡ Ok t) × (figure_passes f q t.supply ≡ true))
    ⊎ ((answer ≡ Err (refused 9)) × (figure_passes f q t.supply ≡ false))

pub passes_or_9 : (f : Family) (q : Rates) (t : Scheduled) → PassesOr9 f q t (test_taken f q t)
unfolding test_taken
passes_or_9 f q t = pick (figure_passes f q t.supply) refl
  where
    pick : (b : Bool) → figure_passes f q t.supply ≡ b → PassesOr9 f q t (test_taken f q t)
    pick true e = inl (rw e, e)
    pick false e = inr (rw e, e)

-- there is one best only
pub unique : (f : Family) (s : Spec) {p plan : Plan} {w v : ℕ} → BestOfAll f s p w → BestOfAll f s plan v → schedule_of p w ≡ schedule_of plan v
unique f s {p} {plan} {w} {v} h b =
    let same : w ≡ v = good_both f (h.best plan.count plan v b.schedule) (b.best p.count p w h.schedule) in
    let less : p.count ≤ plan.count = h.first plan.count plan (b.schedule ∙ ap (λ x. Ok (schedule_of plan x)) (sym same)) in
    let more : plan.count ≤ p.count = b.first p.count p (h.schedule ∙ ap (λ x. Ok (schedule_of p x)) same) in
    let c : p.count ≡ plan.count = omega arith in
    let found : Ok (schedule_of p w) ≡ Ok (schedule_of plan v) = sym h.schedule ∙ ap (schedule_for f s) c ∙ b.schedule in
    cc

module _ (s : Spec) (q : Rates) (e : both_rates s ≡ Ok q) where
  abbrev f : Family
  f = family_of q

  abbrev best : Scheduled
  best = taken f s q

  -- it tests what is taken, or names a condition, or gives 3, 4, 24 or 25
  abbrev TestsTaken : Type 0
  TestsTaken = (consistency_of s ≡ Ok tt) × (test_of s ≡ test_taken f q best)

  abbrev Otherwise : Type 0
  Otherwise = ((c : Condition) × (test_of s ≡ Err (inconsistent c))) ⊎ (test_of s ≡ Err (refused (one_range_number s)))

  judged : (c : Result (Unit {0}) Failing) → consistency_of s ≡ c → HasOneRange s → test_of s ≡ test_consistent c s q
  unfolding test_of
  judged c h one = rw (started_at s q one e, h)

  -- a consistent specification is started with
  begun : consistency_of s ≡ Ok tt → started s ≡ Ok q
  begun h = started_at s q (consistent_one_range s h) e

  consistent : consistency_of s ≡ Ok tt → test_of s ≡ test_taken f q best
  unfolding test_consistent
  consistent h = judged (Ok tt) h (consistent_one_range s h)

  -- and the best of all k is taken, which passes or gets 9
  pub best_taken : consistency_of s ≡ Ok tt → BestOfAll f s best.plan best.supply
  best_taken h = let n = known s q (begun h) in taken_best s q n f (some_count s q n h f)

  pub answered : consistency_of s ≡ Ok tt → PassesOr9 f q best (test_of s)
  answered h = rw (consistent h) (passes_or_9 f q best)

  outcome : TestsTaken ⊎ Otherwise
  unfolding test_of test_consistent
  outcome =
      ⊎_elim
      (λ one. pick (consistency_of s) refl one)
      (λ some. inr (inr (rates_begin s _ (λ n. Err (refused n)) ∙ stops (one_range_number s) _ (λ n. Err (refused n)) some)))
      (none_or (one_range_number s))
    where
      pick : (c : Result (Unit {0}) Failing) → consistency_of s ≡ c → HasOneRange s → TestsTaken ⊎ Otherwise
      pick (Ok u) h one = inl (h, consistent h)
      pick (Err (inconsistent x)) h one = inr (inl (x, judged (Err (inconsistent x)) h one))
      pick (Err (refused n)) h one = absurd (one_range_no_number s one n h)

  -- a passed plan and 9 come only where what is taken is tested
  tested : (t : Result Scheduled Failing) → test_of s ≡ t → ((c : Condition) → t ≡ Err (inconsistent c) → ⊥) → (t ≡ Err (refused (one_range_number s)) → ⊥) → consistency_of s ≡ Ok tt
  tested t x not-condition not-number =
      ⊎_elim
      (λ g. g.0)
      (λ g. absurd (⊎_elim (λ y. not-condition y.0 (sym x ∙ y.1)) (λ y. not-number (sym x ∙ y)) g))
      outcome

  pub passed_consistent : (plan : Plan) (v : ℕ) → test_of s ≡ Ok (schedule_of plan v) → consistency_of s ≡ Ok tt
  passed_consistent plan v x = tested (Ok (schedule_of plan v)) x (λ c y. cc) (λ y. cc)

  -- 9 is none of the numbers that come first
  pub nine_consistent : test_of s ≡ Err (refused 9) → consistency_of s ≡ Ok tt
  nine_consistent x =
      tested
      (Err (refused 9))
      x
      (λ c y. cc)
      (λ y. let z : 9 ≡ one_range_number s = cc in ⊎_elim (λ k. omega arith) (λ k. omega arith) (one_range_few s (λ none. omega arith)))
