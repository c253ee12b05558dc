-- Reports f 0, f 1, .. as a list with the last of them first: how it splits, what falling minutes say of each report, and what its
-- reports count for where minutes are picked, whether records are counted or reports.
use Prim.Native.Nat.{ℕ, zero, suc, ◌+◌, ◌≤◌, ◌<◌}
use native.Mathlib.Omega.{arith}
use native.Mathlib.Nat.{add_comm, zero-add, suc-add, le_refl}
use mathlib.Core.Path.{◌≡◌, refl}
use mathlib.Core.Logic.{⊎_elim}
use mathlib.Core.Bool.{Bool, true, false}
use mathlib.Core.List.{List, [], ◌∷◌, ◌++◌}
use Rattle.numbers.proofs.Cases.{lt_cases}
use Rattle.schedule.specs.Schedules.{sum}
use Rattle.meter.specs.Plain.{Report, counted_at}
use Rattle.meter.proofs.Offers.{FallsFrom}

-- f (n - 1), .., f 0
abbrev pub rows : (ℕ → Report) → ℕ → List Report
rows f zero = []
rows f (suc n) = f n ∷ rows f n

pub rows_same : (f g : ℕ → Report) (n : ℕ) → ((i : ℕ) → i < n → f i ≡ g i) → rows f n ≡ rows g n
rows_same f g zero h = refl
rows_same f g (suc n) h = rw (h n (omega arith), rows_same f g n (λ i k. h i (omega arith)))

pub rows_split : (f : ℕ → Report) (k n : ℕ) → rows f (n + k) ≡ rows (λ i. f (k + i)) n ++ rows f k
rows_split f k zero = rw zero-add
rows_split f k (suc n) = rw (suc-add, add_comm k n, rows_split f k n)

pub falls_front : (t : ℕ) (a b : List Report) → FallsFrom t (a ++ b) → FallsFrom t a
falls_front t [] b f = tt
falls_front t (x ∷ a) b f = (f.0, falls_front x.minute a b f.1)

module _ (f : ℕ → Report) where
  pub rows_below : (n t i : ℕ) → FallsFrom t (rows f n) → i < n → (f i).minute ≤ t
  rows_below zero t i h k = absurd (omega arith)
  rows_below (suc n) t i h k =
      ⊎_elim
      (λ q. omega (arith, h.0, rows_below n (f n).minute i h.1 q))
      (λ q. let e : i ≡ n = omega arith in rw e h.0)
      (lt_cases i n)

  pub rows_rise : (n t i j : ℕ) → FallsFrom t (rows f n) → i ≤ j → j < n → (f i).minute ≤ (f j).minute
  rows_rise zero t i j h p k = absurd (omega arith)
  rows_rise (suc n) t i j h p k =
      ⊎_elim
      (λ q. rows_rise n (f n).minute i j h.1 p q)
      (λ q.
      let e : j ≡ n = omega arith in
      ⊎_elim
      (λ r. rw e (rows_below n (f n).minute i h.1 r))
      (λ r. let d : i ≡ j = omega arith in rw d (le_refl (f j).minute))
      (lt_cases i n))
      (lt_cases j n)

module _ (worth : Report → ℕ) (p : ℕ → Bool) where
  pub counted_append : (a b : List Report) → counted_at worth p (a ++ b) ≡ counted_at worth p a + counted_at worth p b
  unfolding counted_at
  counted_append [] b = omega arith
  counted_append (x ∷ a) b = omega (arith, counted_append a b)

  pub counted_all : (f : ℕ → Report) (n : ℕ) → ((i : ℕ) → i < n → p (f i).minute ≡ true) → counted_at worth p (rows f n) ≡ sum (λ i. worth (f i)) n
  unfolding counted_at sum
  counted_all f zero h = refl
  counted_all f (suc n) h = rw (h n (omega arith)) (omega (arith, counted_all f n (λ i k. h i (omega arith))))

  pub counted_none : (f : ℕ → Report) (n : ℕ) → ((i : ℕ) → i < n → p (f i).minute ≡ false) → counted_at worth p (rows f n) ≡ 0
  unfolding counted_at
  counted_none f zero h = refl
  counted_none f (suc n) h = rw (h n (omega arith)) (omega (arith, counted_none f n (λ i k. h i (omega arith))))

  pub counted_never : (l : List Report) → ((u : ℕ) → p u ≡ false) → counted_at worth p l ≡ 0
  unfolding counted_at
  counted_never [] h = refl
  counted_never (x ∷ l) h = rw (h x.minute) (omega (arith, counted_never l h))
