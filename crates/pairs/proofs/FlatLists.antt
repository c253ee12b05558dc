-- Laws of lists of pairs and of the flat lists that hold them. Assumes nothing.
use mathlib.Core.Path.{◌≡◌, refl, sym, ap, ◌∙◌}
use Prim.Native.Nat.{ℕ, zero, suc, ◌+◌, ◌*◌, ◌/◌, ◌≤◌, ◌<◌}
use native.Mathlib.Numerals.{add-one}
use native.Mathlib.Omega.{arith}
use mathlib.Core.List.{List, [], ◌∷◌, ◌++◌}
use lib.ListN.{length, get_or, take}
use lib.Seq.{take-nil, take-suc}
use Rattle.std.specs.Simd.{first_chunks}
use Rattle.pairs.specs.declared.Pair.{Pair}
use Rattle.pairs.specs.Pairs.{no_pair, flatten, pairs_of}

twice_suc : (i : ℕ) → 2 * suc i ≡ suc (suc (2 * i))
twice_suc i = omega arith

odd_suc : (i : ℕ) → 2 * suc i + 1 ≡ suc (suc (2 * i + 1))
odd_suc i = omega arith

half_suc : (n : ℕ) → suc (suc n) / 2 ≡ suc (n / 2)
half_suc n = omega arith

-- ---- back

pub pairs_of_flatten : (ps : List Pair) → pairs_of (flatten ps) ≡ ps
pairs_of_flatten [] = refl
pairs_of_flatten (p ∷ ps) = ap (λ (l : List Pair). p ∷ l) (pairs_of_flatten ps)

-- and of a list of even length back again
pub flatten_pairs_of : (n : ℕ) (l : List ℕ) → length l ≡ 2 * n → flatten (pairs_of l) ≡ l
flatten_pairs_of n [] e = refl
flatten_pairs_of zero (g ∷ l) e = absurd (omega arith)
flatten_pairs_of (suc n) (g ∷ []) e = absurd (omega arith)
flatten_pairs_of (suc n) (g ∷ s ∷ l) e = ap (λ (r : List ℕ). g ∷ s ∷ r) (flatten_pairs_of n l (omega arith))

-- ---- lengths

pub length_flatten : (ps : List Pair) → length (flatten ps) ≡ 2 * length ps
length_flatten [] = refl
length_flatten (p ∷ ps) = ap (λ (k : ℕ). suc (suc k)) (length_flatten ps) ∙ sym (twice_suc (length ps))

-- the words in front that hold pairs are there, all of them
pub length_front : (ps : List Pair) (words : List ℕ) (used : ℕ) → take used words ≡ flatten ps → used ≡ 2 * length ps → length (take used words) ≡ used
length_front ps words used front e = ap length front ∙ length_flatten ps ∙ sym e

pub length_pairs_of : (l : List ℕ) → length (pairs_of l) ≡ length l / 2
length_pairs_of [] = refl
length_pairs_of (g ∷ []) = refl
length_pairs_of (g ∷ s ∷ l) = ap suc (length_pairs_of l) ∙ sym (half_suc (length l))

-- ---- the numbers of pair j

pub gap_pairs_of : (l : List ℕ) (j : ℕ) → j < length l / 2 → (get_or (pairs_of l) j no_pair).gap ≡ get_or l (2 * j) 0
gap_pairs_of [] j h = absurd (omega arith)
gap_pairs_of (g ∷ []) j h = absurd (omega arith)
gap_pairs_of (g ∷ s ∷ l) zero h = refl
gap_pairs_of (g ∷ s ∷ l) (suc j) h = gap_pairs_of l j (omega (arith, half_suc (length l))) ∙ ap (λ (k : ℕ). get_or (g ∷ s ∷ l) k 0) (sym (twice_suc j))

-- past the end both are 0
pub size_pairs_of : (l : List ℕ) (j : ℕ) → (get_or (pairs_of l) j no_pair).size ≡ get_or l (2 * j + 1) 0
size_pairs_of [] j = refl
size_pairs_of (g ∷ []) j = ap (λ (k : ℕ). get_or (g ∷ []) k 0) (sym (add-one (2 * j)))
size_pairs_of (g ∷ s ∷ l) zero = refl
size_pairs_of (g ∷ s ∷ l) (suc j) = size_pairs_of l j ∙ ap (λ (k : ℕ). get_or (g ∷ s ∷ l) k 0) (sym (odd_suc j))

pub pair_pairs_of : (l : List ℕ) (j : ℕ) → j < length l / 2 → get_or (pairs_of l) j no_pair ≡ record { gap = get_or l (2 * j) 0; size = get_or l (2 * j + 1) 0 }
pair_pairs_of l j h = ap (λ (g : ℕ). record { gap = g; size = (get_or (pairs_of l) j no_pair).size }) (gap_pairs_of l j h) ∙ ap (λ (s : ℕ). record { gap = get_or l (2 * j) 0; size = s }) (size_pairs_of l j)

-- so it is chunk j of two numbers
pub chunk_pairs_of : (l : List ℕ) (n j : ℕ) → j < n → n ≤ length l / 2
    → record { gap = get_or (get_or (first_chunks 2 n l) j []) 0 0; size = get_or (get_or (first_chunks 2 n l) j []) 1 0 } ≡ get_or (pairs_of l) j no_pair
chunk_pairs_of l zero j h k = absurd (omega arith)
chunk_pairs_of [] (suc n) j h k = absurd (omega arith)
chunk_pairs_of (g ∷ []) (suc n) j h k = absurd (omega arith)
chunk_pairs_of (g ∷ s ∷ l) (suc n) zero h k = refl
chunk_pairs_of (g ∷ s ∷ l) (suc n) (suc j) h k = chunk_pairs_of l n j (omega arith) (omega (arith, half_suc (length l)))

-- ---- parts

-- one pair more
pub take_next : (ps : List Pair) (i : ℕ) → i < length ps → take (i + 1) ps ≡ take i ps ++ (get_or ps i no_pair ∷ [])
take_next ps i h = ap (λ (n : ℕ). take n ps) (add-one i) ∙ take-suc ps i no_pair h

pub flatten_append : (ps qs : List Pair) → flatten (ps ++ qs) ≡ flatten ps ++ flatten qs
flatten_append [] qs = refl
flatten_append (p ∷ ps) qs = ap (λ (l : List ℕ). p.gap ∷ p.size ∷ l) (flatten_append ps qs)

pub pairs_of_take : (n : ℕ) (l : List ℕ) → pairs_of (take (2 * n) l) ≡ take n (pairs_of l)
pairs_of_take zero l = refl
pairs_of_take (suc n) [] = ap pairs_of (take-nil (2 * suc n))
pairs_of_take (suc n) (g ∷ []) = ap (λ (k : ℕ). pairs_of (take k (g ∷ []))) (twice_suc n) ∙ ap (λ (l : List ℕ). pairs_of (g ∷ l)) (take-nil (suc (2 * n)))
pairs_of_take (suc n) (g ∷ s ∷ l) = ap (λ (k : ℕ). pairs_of (take k (g ∷ s ∷ l))) (twice_suc n) ∙ ap (λ (ps : List Pair). record { gap = g; size = s } ∷ ps) (pairs_of_take n l)
