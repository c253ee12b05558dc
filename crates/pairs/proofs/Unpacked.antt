-- Laws of unpacking: what the lent words hold while i pairs are laid, and when all are. Assumes nothing.
use mathlib.Core.Path.{◌≡◌, sym, ap, ◌∙◌}
use Prim.Native.Nat.{ℕ, ◌+◌, ◌*◌, ◌/◌, ◌≤◌, ◌<◌}
use native.Mathlib.Omega.{arith}
use mathlib.Core.List.{List}
use lib.ListN.{length, get_or, set, take}
use lib.Seq.{length-take-le, take_at}
use Rattle.pairs.specs.declared.Pair.{Pair}
use Rattle.pairs.specs.Pairs.{no_pair, flatten, pairs_of, laid_over, that_fit}
use Rattle.pairs.proofs.FlatLists.{length_flatten, length_front, pairs_of_flatten, take_next}
use Rattle.pairs.proofs.LaidOver.{length_laid_over, laid_over_pair}

-- the words when the first i pairs are laid
abbrev pub laid : List Pair → List ℕ → ℕ → List ℕ
laid ps old i = laid_over (flatten (take i ps)) old

pub length_laid : (ps : List Pair) (old : List ℕ) (i : ℕ) → i ≤ length ps → 2 * i ≤ length old → length (laid ps old i) ≡ length old
length_laid ps old i h k = length_laid_over (flatten (take i ps)) old (rw (length_flatten, length-take-le i ps h) k)

pub laid_next : (ps : List Pair) (old : List ℕ) (i : ℕ) → i < length ps → 2 * i + 1 < length old
    → set (set (laid ps old i) (2 * i) (get_or ps i no_pair).gap) (2 * i + 1) (get_or ps i no_pair).size ≡ laid ps old (i + 1)
laid_next ps old i h k =
    laid_over_pair (take i ps) old (get_or ps i no_pair) i (length-take-le i ps (omega arith)) k
    ∙ ap (λ (l : List Pair). laid_over (flatten l) old) (sym (take_next ps i h))

-- what `unpack` says of its result and of the lent words
abbrev pub Unpacks : List Pair → List ℕ → ℕ → List ℕ → Type 0
Unpacks ps old used new = (used ≡ 2 * length (that_fit (length old / 2) ps)) × (new ≡ laid_over (flatten (that_fit (length old / 2) ps)) old)

-- so the words that are used are there, and hold the pairs that fit
module _ (ps : List Pair) (old : List ℕ) (used : ℕ) (new : List ℕ) (said : Unpacks ps old used new) where
  abbrev fit : List Pair
  fit = that_fit (length old / 2) ps

  used_words : take used new ≡ flatten fit
  used_words = ap (take used) said.1 ∙ take_at (flatten fit) _ used (length_flatten fit ∙ sym said.0)

  pub used_there : length (take used new) ≡ used
  used_there = length_front fit new used used_words said.0

  pub used_pairs : pairs_of (take used new) ≡ fit
  used_pairs = ap pairs_of used_words ∙ pairs_of_flatten fit
