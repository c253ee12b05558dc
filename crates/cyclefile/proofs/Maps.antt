-- A pair's map byte, and the map that the pair is written with. One that is not wrong is told by its two bits, and a field that is left out is the one
-- before, which would be left out too. So a field stands in vain exactly where the two maps are not the same. Assumes nothing.
use mathlib.Core.Path.{◌≡◌, refl, sym, ap, ◌∙◌}
use Prim.Native.Nat.{ℕ, zero, suc, ◌+◌}
use native.Mathlib.Omega.{arith}
use mathlib.Core.Bool.{Bool, true, false, cond, not, ◌&&◌, ◌||◌}
use mathlib.Core.List.{List}
use lib.Dec.{eqb, ltb}
use lib.ListN.{get_or}
use borrow.Author.Tests.{eq-eqb, not-false, ltb-false}
use Rattle.std.specs.Prelude.{Option, None, Some}
use Rattle.spec.specs.File.{word}
use Rattle.pairs.specs.declared.Pair.{Pair}
use Rattle.cyclefile.specs.File.{stands, gap_stands, size_stands, map_byte, has_gap, has_size, map_is_wrong, field_length, last_pair, pair_at, stands_in_vain}

-- ---- tests

or_false : (a b : Bool) → (a || b) ≡ false → (a ≡ false) × (b ≡ false)
or_false true b e = cc
or_false false b e = (refl, e)

and_true_left : (a b : Bool) → (a && b) ≡ true → a ≡ true
and_true_left true b e = refl
and_true_left false b e = e

and_true_right : (a b : Bool) → (a && b) ≡ true → b ≡ true
and_true_right true b e = e
and_true_right false b e = cc

-- ---- a map that is read

-- a map byte with no bits above the second is told by its bits
pub map_again : (m : ℕ) → ltb 3 m ≡ false → map_byte (has_gap m) (has_size m) ≡ m
map_again zero e = refl
map_again (suc zero) e = refl
map_again (suc (suc zero)) e = refl
map_again (suc (suc (suc zero))) e = refl
map_again (suc (suc (suc (suc m)))) e = absurd (let h = ltb-false 3 (suc (suc (suc (suc m)))) e in omega arith)

-- a map byte that is not wrong: no bits above the second, and both below it in the first pair
pub map_told : (before : Option Pair) (m : ℕ) → map_is_wrong before m ≡ false → (ltb 3 m ≡ false) × (before ≡ None → (has_gap m && has_size m) ≡ true)
map_told None m e = let k = or_false (ltb 3 m) (not (has_gap m && has_size m)) e in (k.0, λ z. not-false _ k.1)
map_told (Some q) m e = (e, λ z. cc)

-- ---- and the one that the pair is written with

-- a field that is left out is the one before, so that it does not stand
left_out : (before : Option Pair) (field : Pair → ℕ) (p : Pair) (t : Bool) (n : ℕ) → (before ≡ None → t ≡ true) → field p ≡ cond t n (field (last_pair before)) → t ≡ false → stands before field p ≡ false
left_out None field p t n h e f = absurd (let z : ◌≡◌ {A = Bool} true false = sym (h refl) ∙ f in let y : ◌≡◌ {A = ℕ} 0 1 = cc in omega arith)
left_out (Some q) field p t n h e f = ap not (eq-eqb (field p) (field q) (e ∙ rw f))

-- so of the bits that are read and those that are written only one way to differ is left
in_vain_by : (g s g' s' : Bool) → (g ≡ false → g' ≡ false) → (s ≡ false → s' ≡ false) → ((g && not g') || (s && not s')) ≡ not (eqb (map_byte g s) (map_byte g' s'))
in_vain_by true true true true h k = refl
in_vain_by true true true false h k = refl
in_vain_by true true false true h k = refl
in_vain_by true true false false h k = refl
in_vain_by true false true s' h k = rw (k refl)
in_vain_by true false false s' h k = rw (k refl)
in_vain_by false true g' true h k = rw (h refl)
in_vain_by false true g' false h k = rw (h refl)
in_vain_by false false g' s' h k = rw (h refl, k refl)

pub in_vain_by_map : (before : Option Pair) (b : List ℕ) → map_is_wrong before (get_or b 0 0) ≡ false
    → stands_in_vain before (get_or b 0 0) (pair_at (last_pair before) b)
    ≡ not (eqb (get_or b 0 0) (map_byte (gap_stands before (pair_at (last_pair before) b)) (size_stands before (pair_at (last_pair before) b))))
in_vain_by_map before b right =
    let m = get_or b 0 0 in
    let p = pair_at (last_pair before) b in
    let k = map_told before m right in
    let gap = left_out before (λ (r : Pair). r.gap) p (has_gap m) (word b 1) (λ f. and_true_left (has_gap m) (has_size m) (k.1 f)) refl in
    let size = left_out before (λ (r : Pair). r.size) p (has_size m) (word b (1 + field_length (has_gap m))) (λ f. and_true_right (has_gap m) (has_size m) (k.1 f)) refl in
    in_vain_by (has_gap m) (has_size m) (gap_stands before p) (size_stands before p) gap size
    ∙ ap (λ (n : ℕ). not (eqb n (map_byte (gap_stands before p) (size_stands before p)))) (map_again m k.0)
