-- When all are true, and when not.
use Prim.Native.Nat.{ℕ, zero, suc, ◌≤◌, ◌<◌}
use native.Mathlib.Omega.{arith}
use native.Mathlib.Decide.{dec_lt}
use mathlib.Core.Path.{◌≡◌, refl, sym, ◌∙◌}
use mathlib.Core.Logic.{◌↔◌}
use mathlib.Core.Bool.{Bool, true, false}
use Rattle.numbers.specs.Numbers.{all}
use Rattle.numbers.proofs.Tests.{not_both}

pub all_right : (f : ℕ → Bool) (n : ℕ) → (all f n ≡ true) ↔ ((j : ℕ) → j < n → f j ≡ true)
unfolding all
all_right f zero = (λ e j h. absurd (omega arith), λ h. refl)
all_right f (suc n) = last (f n) refl (all_right f n)
  where
    last : (b : Bool) → f n ≡ b → (all f n ≡ true) ↔ ((j : ℕ) → j < n → f j ≡ true)
        → (elim b [ true ↦ all f n | false ↦ false ] ≡ true) ↔ ((j : ℕ) → j < suc n → f j ≡ true)
    last true e ih =
        (λ a j h. elim (dec_lt j n) [ yes q ↦ ih.0 a j q | no q ↦ let z : j ≡ n = omega arith in rw z e ], λ h. ih.1 (λ j q. h j (omega arith)))
    last false e ih =
        (λ a. absurd (not_both false a refl), λ h. absurd (not_both (f n) (h n (omega arith)) e))

-- the two answers as a loop finds them
pub one_fails : (f : ℕ → Bool) (n j : ℕ) → j < n → f j ≡ false → false ≡ all f n
one_fails f n j h e = pick (all f n) refl
  where
    pick : (b : Bool) → all f n ≡ b → false ≡ b
    pick false q = refl
    pick true q = absurd (not_both (f j) ((all_right f n).0 q j h) e)

pub all_pass : (f : ℕ → Bool) (n j : ℕ) → n ≤ j → ((i : ℕ) → i < j → f i ≡ true) → true ≡ all f n
all_pass f n j h k = sym ((all_right f n).1 (λ i q. k i (omega arith)))

-- where not all are true, one is false
pub some_fails : (f : ℕ → Bool) (n : ℕ) → all f n ≡ false → (j : ℕ) × ((j < n) × (f j ≡ false))
unfolding all
some_fails f zero e = absurd (not_both true refl e)
some_fails f (suc n) e = last (f n) refl e (some_fails f n)
  where
    last : (b : Bool) → f n ≡ b → elim b [ true ↦ all f n | false ↦ false ] ≡ false → (all f n ≡ false → (j : ℕ) × ((j < n) × (f j ≡ false))) → (j : ℕ) × ((j < suc n) × (f j ≡ false))
    last true e a ih = let k = ih a in (k.0, (let h = k.1.0 in omega arith, k.1.1))
    last false e a ih = (n, (omega arith, e))

-- two tests are equal where they pass together, and so are two tests of all
pub same_test : (a b : Bool) → (a ≡ true) ↔ (b ≡ true) → a ≡ b
same_test true b h = sym (h.0 refl)
same_test false true h = h.1 refl
same_test false false h = refl

pub all_same : (f g : ℕ → Bool) (n : ℕ) → ((j : ℕ) → f j ≡ g j) → all f n ≡ all g n
all_same f g n h =
    same_test _ _ (
      λ e. (all_right g n).1 (λ j q. sym (h j) ∙ (all_right f n).0 e j q),
      λ e. (all_right f n).1 (λ j q. h j ∙ (all_right g n).0 e j q),
    )
