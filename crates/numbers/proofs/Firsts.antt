-- The first number that passes a test: none before it does.
use Prim.Native.Nat.{ℕ, zero, suc, ◌+◌, ◌≤◌, ◌<◌}
use native.Mathlib.Omega.{arith}
use native.Mathlib.Decide.{ℕ_discrete}
use mathlib.Core.Path.{◌≡◌, refl}
use mathlib.Core.Bool.{Bool, true, false}
use Rattle.numbers.specs.Numbers.{first}
use Rattle.numbers.proofs.Tests.{not_both}

-- r is the first number from i on that passes
pub record IsFirst (f : ℕ → Bool) (i r : ℕ) : Type 0 where
  pub from : i ≤ r
  pub passes : f r ≡ true
  pub least : (k : ℕ) → i ≤ k → f k ≡ true → r ≤ k

-- where some number among them passes, the first is found
pub first_right : (f : ℕ → Bool) (n i k : ℕ) → i ≤ k → k < i + n → f k ≡ true → IsFirst f i (first f n i)
unfolding first
first_right f zero i k a b e = absurd (omega arith)
first_right f (suc n) i k a b e = pick (f i) refl (first_right f n (i + 1) k)
  where
    pick : (t : Bool) → f i ≡ t → (i + 1 ≤ k → k < i + 1 + n → f k ≡ true → IsFirst f (i + 1) (first f n (i + 1)))
        → IsFirst f i (elim t [ true ↦ i | false ↦ first f n (i + 1) ])
    pick true h ih = record { from = omega arith; passes = h; least = λ j p q. p }
    pick false h ih =
        let later : (j : ℕ) → i ≤ j → f j ≡ true → i + 1 ≤ j =
        λ j p q. elim (ℕ_discrete i j) [ yes z ↦ absurd (not_both (f i) (rw (← z) at q) h) | no z ↦ omega arith ] in
        let r = ih (later k a e) (omega arith) e in
        record { from = omega (arith, r.from); passes = r.passes; least = λ j p q. r.least j (later j p q) q }

-- what is found among them passes
pub first_passes : (f : ℕ → Bool) (n i : ℕ) → first f n i < i + n → f (first f n i) ≡ true
unfolding first
first_passes f zero i h = absurd (omega arith)
first_passes f (suc n) i h = pick (f i) refl h (first_passes f n (i + 1))
  where
    pick : (t : Bool) → f i ≡ t → elim t [ true ↦ i | false ↦ first f n (i + 1) ] < i + suc n → (first f n (i + 1) < i + 1 + n → f (first f n (i + 1)) ≡ true)
        → f (elim t [ true ↦ i | false ↦ first f n (i + 1) ]) ≡ true
    pick true e h ih = e
    pick false e h ih = ih (omega (arith, h))

-- what is found is not below the first that is looked at, nor past the last by more than one
pub first_from : (f : ℕ → Bool) (n i : ℕ) → i ≤ first f n i
unfolding first
first_from f zero i = omega arith
first_from f (suc n) i = pick (f i) (first_from f n (i + 1))
  where
    pick : (t : Bool) → i + 1 ≤ first f n (i + 1) → i ≤ elim t [ true ↦ i | false ↦ first f n (i + 1) ]
    pick true ih = omega arith
    pick false ih = omega arith

pub first_most : (f : ℕ → Bool) (n i : ℕ) → first f n i ≤ i + n
unfolding first
first_most f zero i = omega arith
first_most f (suc n) i = pick (f i) (first_most f n (i + 1))
  where
    pick : (t : Bool) → first f n (i + 1) ≤ i + 1 + n → elim t [ true ↦ i | false ↦ first f n (i + 1) ] ≤ i + suc n
    pick true ih = omega arith
    pick false ih = omega (arith, ih)

-- Looking from i on, where none below k passed: k is found if it passes, and else what is found is above k.
module _ (f : ℕ → Bool) (n i k : ℕ) (low : i ≤ k) (high : k < i + n) (none : k ≤ first f n i) where
  pub first_found : f k ≡ true → first f n i ≡ k
  first_found e = omega (arith, none, (first_right f n i k low high e).least k low e)

  pub first_above : f k ≡ false → k + 1 ≤ first f n i
  first_above e =
      elim (ℕ_discrete (first f n i) k) [
        | yes z ↦ absurd (not_both (f k) (rw z at (first_passes f n i (omega arith))) e)
        | no z ↦ omega arith
      ]
