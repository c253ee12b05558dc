-- Laws of a list laid over the front of another: an element stored behind the new list makes it one longer. Assumes nothing.
use mathlib.Core.Path.{◌≡◌, sym, ap, ◌∙◌}
use Prim.Native.Nat.{ℕ, suc, ◌+◌, ◌*◌, ◌≤◌, ◌<◌}
use native.Mathlib.Numerals.{add-one}
use native.Mathlib.Omega.{arith}
use mathlib.Core.List.{List, [], ◌∷◌, ◌++◌, append_assoc}
use lib.ListN.{length, set, drop, length-append, length-drop}
use lib.Seq.{drop-cons, set_at}
use Rattle.pairs.specs.declared.Pair.{Pair}
use Rattle.pairs.specs.Pairs.{flatten, laid_over}
use Rattle.pairs.proofs.FlatLists.{length_flatten, flatten_append}

module _ {A : Type 0} where
  pub length_laid_over : (new old : List A) → length new ≤ length old → length (laid_over new old) ≡ length old
  length_laid_over new old h = simp (length-append, length-drop) (omega arith)

  pub laid_over_next : (new old : List A) (a : A) (n : ℕ) → length new ≡ n → n < length old → set (laid_over new old) n a ≡ laid_over (new ++ (a ∷ [])) old
  laid_over_next new old a n e h =
      ap (λ (k : ℕ). set (new ++ drop k old) n a) e
      ∙ ap (λ (l : List A). set (new ++ l) n a) (drop-cons old n a h)
      ∙ set_at new _ (drop (suc n) old) a n e
      ∙ sym (append_assoc new (a ∷ []) (drop (suc n) old))
      ∙ ap (λ (k : ℕ). (new ++ (a ∷ [])) ++ drop k old) (sym (length-append new (a ∷ []) ∙ ap (λ (k : ℕ). k + 1) e ∙ add-one n))

-- a pair stored as its two numbers
pub laid_over_pair : (ps : List Pair) (old : List ℕ) (p : Pair) (i : ℕ) → length ps ≡ i → 2 * i + 1 < length old
    → set (set (laid_over (flatten ps) old) (2 * i) p.gap) (2 * i + 1) p.size ≡ laid_over (flatten (ps ++ (p ∷ []))) old
laid_over_pair ps old p i e h =
    ap (λ (l : List ℕ). set l (2 * i + 1) p.size) (laid_over_next (flatten ps) old p.gap (2 * i) long (omega arith))
    ∙ laid_over_next (flatten ps ++ (p.gap ∷ [])) old p.size (2 * i + 1) (length-append (flatten ps) (p.gap ∷ []) ∙ ap (λ (k : ℕ). k + 1) long) h
    ∙ ap (λ (l : List ℕ). laid_over l old) (append_assoc (flatten ps) (p.gap ∷ []) (p.size ∷ []) ∙ sym (flatten_append ps (p ∷ [])))
  where
    long : length (flatten ps) ≡ 2 * i
    long = length_flatten ps ∙ ap (λ (k : ℕ). 2 * k) e
