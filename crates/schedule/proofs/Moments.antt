-- Any schedule with no gap 0. Its minutes rise, so the last report at or before a minute is found among the first reports, the nearest is
-- the last or the next, and what lies from a minute to a later one and on to a third adds up. That a report is the last, or the nearest,
-- determines it: what has the property is what the definition finds.
use Prim.Native.Nat.{ℕ, zero, suc, ◌+◌, ◌-◌, ◌≤◌, ◌<◌}
use native.Mathlib.Omega.{arith}
use native.Mathlib.Nat.{sub-zero, mul-one}
use mathlib.Core.Path.{◌≡◌, refl, sym, ◌∙◌}
use mathlib.Core.Logic.{◌⊎◌, inl, inr, ⊎_elim}
use mathlib.Core.Bool.{Bool, true, false, cond}
use lib.Dec.{leb, ltb}
use borrow.Author.Tests.{le-leb, leb-true, ltb-true, ltb-false}
use Rattle.numbers.specs.Numbers.{ceil}
use Rattle.numbers.proofs.Cases.{lt_cases}
use Rattle.schedule.specs.Schedules.{Schedule, sum, minute, stretch}
use Rattle.schedule.specs.Moments.{greatest, last_report, IsLast, distance, first_least, nearest_report, IsNearest, counted, reports_from, records_from}
use Rattle.schedule.proofs.Sums.{sum_const}
use Rattle.schedule.proofs.Before.{reports_before, minute_none, minute_least, minute_mono, minute_rise, before_iff, stretch_add, first_minutes, stretch_least}

-- the greatest of 0, .., n that passes, where 0 does
module _ (passes : ℕ → Bool) (some : passes 0 ≡ true) where
  pub record Greatest (n g : ℕ) : Type 0 where
    pub passed : passes g ≡ true
    pub most : (i : ℕ) → i ≤ n → passes i ≡ true → i ≤ g

  pub greatest_is : (n : ℕ) → Greatest n (greatest passes n)
  unfolding greatest
  greatest_is zero = record { passed = some; most = λ i h e. h }
  greatest_is (suc n) = top (passes (suc n)) refl (greatest_is n)
    where
      top : (b : Bool) → passes (suc n) ≡ b → Greatest n (greatest passes n) → Greatest (suc n) (elim b [ true ↦ suc n | false ↦ greatest passes n ])
      top true e ih = record { passed = e; most = λ i h t. h }
      top false e ih = record {
        passed = ih.passed;
        most = λ i h t.
            ⊎_elim
            (λ q. absurd (let z : i ≡ suc n = omega arith in let y : ◌≡◌ {A = ℕ} 0 1 = cc in omega arith))
            (λ q. ih.most i q t)
            (lt_cases n i);
      }

-- and where none does it is 0
pub greatest_none : (passes : ℕ → Bool) → ((i : ℕ) → passes i ≡ false) → (n : ℕ) → greatest passes n ≡ 0
unfolding greatest
greatest_none passes none zero = refl
greatest_none passes none (suc n) = top (passes (suc n)) (none (suc n)) (greatest_none passes none n)
  where
    top : (b : Bool) → b ≡ false → greatest passes n ≡ 0 → ◌≡◌ {A = ℕ} (elim b [ true ↦ suc n | false ↦ greatest passes n ]) 0
    top true e ih = absurd (let z : ◌≡◌ {A = ℕ} 0 1 = cc in omega arith)
    top false e ih = ih

-- the first of 0, .., n at which f is least
module _ (f : ℕ → ℕ) where
  record FirstLeast (n g : ℕ) : Type 0 where
    inside : g ≤ n
    least : (i : ℕ) → i ≤ n → f g ≤ f i
    before : (i : ℕ) → i < g → f g < f i

  first_least_is : (n : ℕ) → FirstLeast n (first_least f n)
  unfolding first_least
  first_least_is zero = record {
    inside = omega arith;
    least = λ i h. let z : i ≡ 0 = omega arith in rw z (omega arith);
    before = λ i h. absurd (omega arith);
  }
  first_least_is (suc n) = top (ltb (f (suc n)) (f (first_least f n))) refl (first_least_is n)
    where
      top : (b : Bool) → ltb (f (suc n)) (f (first_least f n)) ≡ b → FirstLeast n (first_least f n) → FirstLeast (suc n) (cond b (suc n) (first_least f n))
      top true e ih =
          let d : f (suc n) < f (first_least f n) = ltb-true _ _ e in
          record {
            inside = omega arith;
            least = λ i h. ⊎_elim (λ q. let z : i ≡ suc n = omega arith in rw z (omega arith)) (λ q. omega (arith, ih.least i q)) (lt_cases n i);
            before = λ i h. omega (arith, ih.least i (omega arith));
          }
      top false e ih =
          let d : f (first_least f n) ≤ f (suc n) = ltb-false _ _ e in
          record {
            inside = omega (arith, ih.inside);
            least = λ i h. ⊎_elim (λ q. let z : i ≡ suc n = omega arith in rw z d) (λ q. ih.least i q) (lt_cases n i);
            before = ih.before;
          }

module _ (s : Schedule) (later : (i : ℕ) → 1 ≤ s.gap i) (m : ℕ) where
  pub last_is : IsLast s m (last_report s m)
  unfolding last_report
  last_is =
      let g = greatest_is (λ i. leb (minute s i) m) (le-leb (minute s 0) m (omega (arith, minute_none s))) m in
      record {
        at_or_before = leb-true _ _ g.passed;
        greatest_one = λ j h. g.most j (omega (arith, minute_least s later j)) (le-leb _ _ h);
      }

  pub last_found : (i : ℕ) → IsLast s m i → last_report s m ≡ i
  last_found i x = omega (arith, x.greatest_one (last_report s m) last_is.at_or_before, last_is.greatest_one i x.at_or_before)

  -- it is the last of the reports before the next minute
  last_counted : reports_before s (m + 1) ≡ last_report s m + 1
  last_counted =
      let n = reports_before s (m + 1) in
      let some = (before_iff s later (m + 1) 0).0 (omega (arith, minute_none s)) in
      let at = (before_iff s later (m + 1) (n - 1)).1 (omega arith) in
      omega (
        arith,
        last_found (n - 1)
            (record { at_or_before = omega arith; greatest_one = λ j h. let q = (before_iff s later (m + 1) j).0 (omega arith) in omega arith }),
      )

  -- past report m + 1 none is nearer
  pub nearest_is : IsNearest s m (nearest_report s m)
  unfolding nearest_report
  nearest_is =
      let g = first_least_is (λ i. distance (minute s i) m) (m + 1) in
      record {
        nearest = λ j.
            ⊎_elim
            (λ q. omega (arith, g.least (m + 1) (omega arith), minute_rise s later (m + 1) j q, minute_least s later (m + 1)))
            (λ q. g.least j q)
            (lt_cases (m + 1) j);
        first = g.before;
      }

  pub nearest_found : (i : ℕ) → IsNearest s m i → nearest_report s m ≡ i
  nearest_found i x =
      let l = nearest_report s m in
      ⊎_elim
      (λ q. absurd (omega (arith, x.first l q, nearest_is.nearest i)))
      (λ q. ⊎_elim (λ r. absurd (omega (arith, nearest_is.first i r, x.nearest l))) (λ r. omega arith) (lt_cases i l))
      (lt_cases l i)

  -- the last report and the next enclose the minute
  pub last_before : minute s (last_report s m) ≤ m
  last_before = last_is.at_or_before

  pub next_after : m < minute s (last_report s m + 1)
  next_after =
      ⊎_elim (λ q. q) (λ q. absurd (omega (arith, last_is.greatest_one (last_report s m + 1) q))) (lt_cases m (minute s (last_report s m + 1)))

  pub last_small : last_report s m ≤ m
  last_small = omega (arith, last_before, minute_least s later (last_report s m))

  -- every report is as far away as the last, or as the next
  no_nearer : (j : ℕ) → (m - minute s (last_report s m) ≤ distance (minute s j) m) ⊎ (minute s (last_report s m + 1) - m ≤ distance (minute s j) m)
  no_nearer j =
      let i = last_report s m in
      ⊎_elim
      (λ q. inr (omega (arith, next_after, minute_mono s (i + 1) j (omega arith))))
      (λ q. inl (omega (arith, last_before, minute_mono s j i q)))
      (lt_cases i j)

  -- the last is the nearest where the next is no nearer, else the next
  pub nearest_last : m - minute s (last_report s m) ≤ minute s (last_report s m + 1) - m → nearest_report s m ≡ last_report s m
  nearest_last h =
      let i = last_report s m in
      nearest_found i
      (record {
        nearest = λ j. ⊎_elim (λ q. omega (arith, last_before)) (λ q. omega (arith, last_before)) (no_nearer j);
        first = λ j q. omega (arith, last_before, minute_rise s later j i q);
      })

  pub nearest_next : minute s (last_report s m + 1) - m < m - minute s (last_report s m) → nearest_report s m ≡ last_report s m + 1
  nearest_next h =
      let i = last_report s m in
      nearest_found (i + 1)
      (record {
        nearest = λ j. ⊎_elim (λ q. omega (arith, next_after)) (λ q. omega (arith, next_after)) (no_nearer j);
        first = λ j q. omega (arith, next_after, last_before, minute_mono s j i (omega arith));
      })

module _ (s : Schedule) (later : (i : ℕ) → 1 ≤ s.gap i) where
  -- from report i to its minute and back
  pub last_back : (i : ℕ) → last_report s (minute s i) ≡ i
  last_back i =
      last_found s later (minute s i) i
      (record {
        at_or_before = omega arith;
        greatest_one = λ j h. ⊎_elim (λ q. absurd (omega (arith, minute_rise s later i j q))) (λ q. q) (lt_cases i j);
      })

  pub nearest_back : (i : ℕ) → nearest_report s (minute s i) ≡ i
  nearest_back i =
      nearest_found s later (minute s i) i
      (record { nearest = λ j. omega arith; first = λ j h. omega (arith, minute_rise s later j i h) })

  -- What ends at b and what begins there make one, in records and in reports.
  pub records_add : (a b c : ℕ) → a ≤ b → b ≤ c → records_from s a b + records_from s b c ≡ records_from s a c
  unfolding records_from
  records_add a b c h g =
      let e : a + (b - a) ≡ b = omega arith in
      let w : b - a + (c - b) ≡ c - a = omega arith in
      sym (rw (e, w) at (stretch_add s later a (b - a) (c - b)))

  -- what the first x minutes hold is what the reports before minute x hold
  pub records_first : (x : ℕ) → records_from s 0 x ≡ sum s.size (reports_before s x)
  unfolding records_from
  records_first x = rw sub-zero (first_minutes s later x)

-- each report counted as one
module _ (s : Schedule) (later : (i : ℕ) → 1 ≤ s.gap i) where
  pub reports_add : (a b c : ℕ) → a ≤ b → b ≤ c → reports_from s a b + reports_from s b c ≡ reports_from s a c
  unfolding reports_from records_from
  reports_add = records_add (counted s) later

  pub reports_first : (x : ℕ) → reports_from s 0 x ≡ reports_before s x
  unfolding reports_from records_from reports_before minute
  reports_first x = records_first (counted s) later x ∙ sum_const 1 _ ∙ mul-one _

  pub reports_until : (m : ℕ) → reports_from s 0 (m + 1) ≡ last_report s m + 1
  reports_until m = reports_first (m + 1) ∙ last_counted s later m

  -- where no gap is longer than g, w minutes that begin with a report have ⌈w/g⌉ reports or more
  pub reports_least : (g : ℕ) → ((i : ℕ) → s.gap i ≤ g) → (i w : ℕ) → ceil w g ≤ stretch (counted s) (minute s i) w
  unfolding minute
  reports_least g short i w = rw mul-one at (stretch_least (counted s) later g short 1 (λ j. omega arith) i w)
