-- Laws of packing: what the lent list holds while i pairs are packed, and when all are. Assumes nothing.
use mathlib.Core.Path.{◌≡◌, sym, ap, ◌∙◌}
use Prim.Native.Nat.{ℕ, ◌+◌, ◌/◌, ◌≤◌, ◌<◌}
use native.Mathlib.Omega.{arith}
use mathlib.Core.List.{List}
use lib.ListN.{length, get_or, set, take}
use lib.Seq.{length-take-le, take-length}
use Rattle.pairs.specs.declared.Pair.{Pair}
use Rattle.pairs.specs.Pairs.{no_pair, pairs_of, laid_over, that_fit}
use Rattle.pairs.proofs.FlatLists.{length_pairs_of, take_next}
use Rattle.pairs.proofs.Counts.{all_fit, none_fit}
use Rattle.pairs.proofs.LaidOver.{length_laid_over, laid_over_next}

-- the lent list when the first i pairs of the words are packed
abbrev pub packed : List ℕ → List Pair → ℕ → List Pair
packed words old i = laid_over (take i (pairs_of words)) old

-- what `pack` says of the list
abbrev pub Packs : List ℕ → List Pair → List Pair → Type 0
Packs words old new = new ≡ laid_over (that_fit (length old) (pairs_of words)) old

module _ (words : List ℕ) (old : List Pair) where
  pub length_packed : (i : ℕ) → i ≤ length words / 2 → i ≤ length old → length (packed words old i) ≡ length old
  length_packed i h k = length_laid_over (take i (pairs_of words)) old (rw (length-take-le i (pairs_of words) (rw length_pairs_of h)) k)

  pub packed_next : (i : ℕ) → i < length words / 2 → i < length old → set (packed words old i) i (get_or (pairs_of words) i no_pair) ≡ packed words old (i + 1)
  packed_next i h k =
      laid_over_next (take i (pairs_of words)) old (get_or (pairs_of words) i no_pair) i (length-take-le i (pairs_of words) (rw length_pairs_of (omega arith))) k
      ∙ ap (λ (l : List Pair). laid_over l old) (sym (take_next (pairs_of words) i (rw length_pairs_of h)))

  pub packed_all : (i : ℕ) → i ≡ length words / 2 → i ≤ length old → Packs words old (packed words old i)
  packed_all i e h = rw (all_fit (length old) (pairs_of words) (rw (length_pairs_of, ← e) h), e, ← length_pairs_of words, take-length)

  pub packed_none : length old < length words / 2 → Packs words old old
  packed_none h = rw (none_fit (length old) (pairs_of words) (rw length_pairs_of h))
