-- What is taken is the best of all k, where there is a schedule at all. From the first count on: by induction, the schedule taken has a
-- figure as good as every one so far, and the smallest number of reports of those as good. No other k has a schedule, so that up to the last
-- count is all.
use Prim.Native.Nat.{ℕ, zero, suc, ◌+◌, ◌-◌, ◌≤◌, ◌<◌}
use native.Mathlib.Omega.{arith}
use native.Mathlib.Nat.{le_trans}
use mathlib.Core.Path.{◌≡◌, refl, sym, ◌∙◌, ap}
use mathlib.Core.Logic.{⊎_elim}
use mathlib.Core.Bool.{Bool, true, false, cond}
use borrow.Author.Tests.{ltb-true, ltb-false}
use Rattle.numbers.proofs.Cases.{lt_cases}
use Rattle.std.specs.Prelude.{Ok}
use Rattle.spec.specs.declared.Spec.{Spec}
use Rattle.spec.specs.declared.Rates.{Rates}
use Rattle.spec.proofs.KnownRates.{Known}
use Rattle.families.specs.declared.Family.{Family}
use Rattle.families.specs.declared.Family.TheVariants.{MinimumDemand, MaximumSupply}
use Rattle.families.specs.declared.Scheduled.{Scheduled}
use Rattle.families.specs.Families.{supply_figure, schedule_with, schedule_for}
use Rattle.families.proofs.Plans.{plan_count}
use Rattle.families.proofs.Schedules.{found_at, some_at}
use Rattle.feasibility.specs.Test.{first_count, last_count, is_better, better_of, taken_from, taken, AsGood, BestOfAll}
use Rattle.feasibility.proofs.Counts.{exists_iff}

-- figures of a family are ordered
good_same : (f : Family) {v w : ℕ} → v ≡ w → AsGood f v w
good_same MinimumDemand e = omega arith
good_same MaximumSupply e = omega arith

good_trans : (f : Family) (u v w : ℕ) → AsGood f u v → AsGood f v w → AsGood f u w
good_trans MinimumDemand u v w a b = le_trans a b
good_trans MaximumSupply u v w a b = le_trans b a

pub good_both : (f : Family) {v w : ℕ} → AsGood f v w → AsGood f w v → v ≡ w
good_both MinimumDemand a b = omega arith
good_both MaximumSupply a b = omega arith

better_good : (f : Family) (v w : ℕ) → is_better f v w ≡ true → AsGood f v w
unfolding is_better
better_good MinimumDemand v w e = omega (arith, ltb-true v w e)
better_good MaximumSupply v w e = omega (arith, ltb-true w v e)

better_only : (f : Family) (v w : ℕ) → is_better f v w ≡ true → AsGood f w v → ⊥
unfolding is_better
better_only MinimumDemand v w e a = omega (arith, ltb-true v w e)
better_only MaximumSupply v w e a = omega (arith, ltb-true w v e)

not_better : (f : Family) (v w : ℕ) → is_better f v w ≡ false → AsGood f w v
unfolding is_better
not_better MinimumDemand v w e = omega (arith, ltb-false v w e)
not_better MaximumSupply v w e = omega (arith, ltb-false w v e)

module _ (f : Family) (schedule : ℕ → Scheduled) (from : ℕ) where
  abbrev figure : ℕ → ℕ
  figure k = (schedule k).supply

  -- the schedule with j reports is the best of those from the first up to m, and the first of the best
  record FirstBest (m : ℕ) (t : Scheduled) : Type 0 where
    j : ℕ
    inside : (from ≤ j) × (j ≤ m)
    is : schedule j ≡ t
    best : (k : ℕ) → from ≤ k → k ≤ m → AsGood f t.supply (figure k)
    first : (k : ℕ) → from ≤ k → k ≤ m → figure k ≡ t.supply → j ≤ k

  -- one more: those up to m, and the last
  up_to_suc : {X : Type 0} (m k : ℕ) → k ≤ m + 1 → (k ≤ m → X) → (k ≡ m + 1 → X) → X
  up_to_suc m k h a b = ⊎_elim (λ q. a (omega arith)) (λ q. b (omega arith)) (lt_cases k (m + 1))

  step : (m : ℕ) (t : Scheduled) → from ≤ m → FirstBest m t → FirstBest (m + 1) (better_of f t (schedule (m + 1)))
  unfolding better_of
  step m t low h = pick (is_better f (figure (m + 1)) t.supply) refl
    where
      last : {k : ℕ} → k ≡ m + 1 → figure (m + 1) ≡ figure k
      last e = ap figure (sym e)

      pick : (b : Bool) → is_better f (figure (m + 1)) t.supply ≡ b → FirstBest (m + 1) (cond b (schedule (m + 1)) t)
      pick true g = record {
        j = m + 1;
        inside = (omega arith, omega arith);
        is = refl;
        best = λ k a b. up_to_suc m k b (λ x. good_trans f _ _ _ (better_good f _ _ g) (h.best k a x)) (λ x. good_same f (last x));
        first = λ k a b e. up_to_suc m k b (λ x. absurd (better_only f _ _ g (good_trans f _ _ _ (h.best k a x) (good_same f e)))) (λ x. omega arith);
      }
      pick false g = record {
        j = h.j;
        inside = (h.inside.0, omega (arith, h.inside.1));
        is = h.is;
        best = λ k a b. up_to_suc m k b (λ x. h.best k a x) (λ x. good_trans f _ _ _ (not_better f _ _ g) (good_same f (last x)));
        first = λ k a b e. up_to_suc m k b (λ x. h.first k a x e) (λ x. omega (arith, h.inside.1));
      }

  -- what is taken before the second, and before one more
  pub taken_first : taken_from f schedule from (from + 1 - (from + 1)) ≡ schedule from
  unfolding taken_from
  taken_first = let e : from + 1 - (from + 1) ≡ 0 = omega arith in rw e

  pub taken_next : (k : ℕ) → from < k
      → taken_from f schedule from (k + 1 - (from + 1)) ≡ better_of f (taken_from f schedule from (k - (from + 1))) (schedule k)
  unfolding taken_from
  taken_next k h =
      let e : k + 1 - (from + 1) ≡ suc (k - (from + 1)) = omega arith in
      let d : from + suc (k - (from + 1)) ≡ k = omega arith in
      rw e (ap (λ (x : ℕ). better_of f (taken_from f schedule from (k - (from + 1))) (schedule x)) d)

  best_from : (n : ℕ) → FirstBest (from + n) (taken_from f schedule from n)
  unfolding taken_from
  best_from zero = record {
    j = from;
    inside = (omega arith, omega arith);
    is = refl;
    best = λ k a b. let e : from ≡ k = omega arith in good_same f (ap figure e);
    first = λ k a b e. a;
  }
  best_from (suc n) =
      let e : from + suc n ≡ from + n + 1 = omega arith in
      rw e (step (from + n) (taken_from f schedule from n) (omega arith) (best_from n))

-- what is taken, against every k
module _ (s : Spec) (q : Rates) (n : Known s q) (f : Family) where
  pub taken_best : first_count f s q ≤ last_count f s q → BestOfAll f s (taken f s q).plan (taken f s q).supply
  unfolding taken schedule_with
  taken_best some =
      let first = first_count f s q in
      let last = last_count f s q in
      let t = taken_from f (schedule_with f s q) first (last - first) in
      let e : first + (last - first) ≡ last = omega arith in
      let h : FirstBest f (schedule_with f s q) first last t = rw e at (best_from f (schedule_with f s q) first (last - first)) in
      let there = (exists_iff s q n f h.j).1 h.inside in
      let c : t.plan.count ≡ h.j = ap (λ (x : Scheduled). x.plan.count) (sym h.is) ∙ plan_count f s q h.j in
      record {
        schedule = ap (schedule_for f s) c ∙ some_at f s q h.j n there ∙ ap (λ (x : Scheduled). Ok x) h.is;
        best = λ k other w x. let y = found_at f s q k other w n.both x in
            let i = (exists_iff s q n f k).0 y.at.there in
            rw (← y.at.figure, ← y.at.is) (h.best k i.0 i.1);
        first = λ k other x. let y = found_at f s q k other t.supply n.both x in
            let i = (exists_iff s q n f k).0 y.at.there in
            rw c (h.first k i.0 i.1 (ap (supply_figure f q) y.at.is ∙ y.at.figure));
      }
