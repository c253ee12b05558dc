-- Laws of writing: that parts stored one behind the other are stored as one. Assumes nothing.
use mathlib.Core.Path.{◌≡◌, sym, ap, ◌∙◌}
use Prim.Native.Nat.{ℕ, suc, ◌+◌, ◌≤◌, ◌<◌}
use native.Mathlib.Nat.{zero-add, add-zero}
use native.Mathlib.Numerals.{add-one}
use native.Mathlib.Omega.{arith}
use mathlib.Core.List.{List, [], ◌∷◌, ◌++◌}
use lib.ListN.{length, get_or, set, drop, length-append, drop_of_length-le}
use lib.Seq.{sets, sets-eq, drop-cons}
use Rattle.pairs.specs.declared.Pair.{Pair}
use Rattle.pairs.specs.Pairs.{laid_over, no_pair}
use Rattle.cyclefile.proofs.Fields.{length_field_bytes}
use Rattle.std.specs.Prelude.{Option, None, Some}
use Rattle.cyclefile.specs.File.{bytes_of, gap_stands, size_stands, map_byte, field_bytes, field_length, pair_bytes, pairs_bytes, cycle_bytes}

-- the bytes of the pairs from i on are those of pair i, and of the pairs behind it
pub pairs_bytes_next : (before : Option Pair) (ps : List Pair) (i : ℕ) → i < length ps → pairs_bytes before (drop i ps) ≡ pair_bytes before (get_or ps i no_pair) ++ pairs_bytes (Some (get_or ps i no_pair)) (drop (i + 1) ps)
unfolding pairs_bytes
pairs_bytes_next before ps i h = rw (drop-cons ps i no_pair, add-one)

pub sets_append : {A : Type 0} (l : List A) (i : ℕ) (vs ws : List A) → sets l i (vs ++ ws) ≡ sets (sets l i vs) (i + length vs) ws
sets_append l i [] ws = ap (λ (k : ℕ). sets l k ws) (sym (add-zero i))
sets_append l i (v ∷ vs) ws = let e : suc i + length vs ≡ i + suc (length vs) = omega arith in sets_append _ (suc i) vs ws ∙ ap (λ (k : ℕ). sets (sets l i (v ∷ vs)) k ws) e

-- a pair is its map byte and its fields, stored one behind the other
pub pair_stored : (before : Option Pair) (p : Pair) (l : List ℕ) (at : ℕ)
    → sets (sets (set l at (map_byte (gap_stands before p) (size_stands before p))) (at + 1) (field_bytes (gap_stands before p) p.gap)) (at + 1 + field_length (gap_stands before p)) (field_bytes (size_stands before p) p.size) ≡ sets l at (pair_bytes before p)
unfolding pair_bytes
pair_stored before p l at =
    rw (← length_field_bytes (gap_stands before p) p.gap, ← sets_append, add-one)

-- what is left to write after a pair
pub left_next : (before : Option Pair) (ps : List Pair) (i at n : ℕ) → i < length ps → at + length (pairs_bytes before (drop i ps)) ≡ n
    → at + length (pair_bytes before (get_or ps i no_pair)) + length (pairs_bytes (Some (get_or ps i no_pair)) (drop (i + 1) ps)) ≡ n
left_next before ps i at n h e = omega (arith, e, ap length (pairs_bytes_next before ps i h), length-append (pair_bytes before (get_or ps i no_pair)) (pairs_bytes (Some (get_or ps i no_pair)) (drop (i + 1) ps)))

pub stored_next : (before : Option Pair) (ps : List Pair) (i at : ℕ) (file : List ℕ) → i < length ps
    → sets (sets file at (pair_bytes before (get_or ps i no_pair))) (at + length (pair_bytes before (get_or ps i no_pair))) (pairs_bytes (Some (get_or ps i no_pair)) (drop (i + 1) ps)) ≡ sets file at (pairs_bytes before (drop i ps))
stored_next before ps i at file h = sym (sets_append file at (pair_bytes before (get_or ps i no_pair)) (pairs_bytes (Some (get_or ps i no_pair)) (drop (i + 1) ps))) ∙ ap (sets file at) (sym (pairs_bytes_next before ps i h))

pub left_none : (before : Option Pair) (ps : List Pair) (i : ℕ) → length ps ≤ i → pairs_bytes before (drop i ps) ≡ []
unfolding pairs_bytes
left_none before ps i h = rw (drop_of_length-le ps h)

-- the count and the pairs, stored one behind the other, are the file
pub count_and_pairs : (ps : List Pair) (old : List ℕ) → length (cycle_bytes ps) ≤ length old → sets (sets old 0 (bytes_of (length ps))) 2 (pairs_bytes None ps) ≡ laid_over (cycle_bytes ps) old
unfolding cycle_bytes
count_and_pairs ps old h =
    sym (sets_append old 0 (bytes_of (length ps)) (pairs_bytes None ps))
    ∙ sets-eq (cycle_bytes ps) old 0 (rw zero-add h)
    ∙ ap (λ (k : ℕ). cycle_bytes ps ++ drop k old) (zero-add (length (cycle_bytes ps)))
