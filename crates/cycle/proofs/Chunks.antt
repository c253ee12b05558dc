-- The pairs that two numbers each hold: those of a flat list that is cut into them; and a test of every pair, as one walk over them makes it.
use Prim.Native.Nat.{ℕ, zero, suc, ◌/◌}
use native.Mathlib.Omega.{arith}
use mathlib.Core.Path.{◌≡◌, refl, sym, ◌∙◌, ap}
use mathlib.Core.List.{List, [], ◌∷◌}
use mathlib.Core.Bool.{Bool, true}
use lib.ListN.{length, get_or, get_or-map}
use Rattle.std.specs.Simd.{first_chunks}
use Rattle.std.specs.List.{list_all}
use Rattle.std.proofs.lemmas.List.{length-map}
use Rattle.std.proofs.lemmas.List.Elements.{All-get_or, All-from_get_or}
use Rattle.std.proofs.lemmas.List.Folds.{list_all-map}
use Rattle.std.proofs.lemmas.List.Sums.{AllPass-from_list_all, list_all-from_AllPass}
use Rattle.numbers.specs.Numbers.{all}
use Rattle.numbers.proofs.All.{all_right, same_test}
use Rattle.spec.specs.declared.Spec.{Spec}
use Rattle.spec.specs.Limits.{size_allowed, gap_allowed}
use Rattle.pairs.specs.declared.Pair.{Pair}
use Rattle.pairs.specs.Pairs.{no_pair, pairs_of}
use Rattle.cycle.specs.Cycles.{pair_gap, pair_size}
use Rattle.cycle.specs.Check.{gaps_allowed, sizes_allowed}
use Rattle.cycle.specs.declared.windows.Measure.{Measure}
use Rattle.cycle.specs.declared.windows.Measure.TheVariants.{Minutes, Records}
use Rattle.cycle.specs.Windows.{pair_in, pairs_in}

pub length_pairs_in : (by : Measure) (xs : List (List ℕ)) → length (pairs_in by xs) ≡ length xs
length_pairs_in by xs = length-map xs (pair_in by)

pub pair_of_chunk : (by : Measure) (xs : List (List ℕ)) (j : ℕ) → get_or (pairs_in by xs) j no_pair ≡ pair_in by (get_or xs j [])
pair_of_chunk Minutes xs j = get_or-map (pair_in Minutes) xs j []
pair_of_chunk Records xs j = get_or-map (pair_in Records) xs j []

pub pairs_in_chunks : (n : ℕ) (l : List ℕ) → n ≡ length l / 2 → pairs_in Minutes (first_chunks 2 n l) ≡ pairs_of l
pairs_in_chunks zero [] e = refl
pairs_in_chunks zero (g ∷ []) e = refl
pairs_in_chunks zero (g ∷ s ∷ l) e = absurd (omega arith)
pairs_in_chunks (suc n) [] e = absurd (omega arith)
pairs_in_chunks (suc n) (g ∷ []) e = absurd (omega arith)
pairs_in_chunks (suc n) (g ∷ s ∷ l) e = ap (λ (ps : List Pair). record { gap = g; size = s } ∷ ps) (pairs_in_chunks n l (omega arith))

-- all of them pass a test, by index and as a walk finds it
all_list : (f : Pair → Bool) (ps : List Pair) → list_all f ps ≡ all (λ j. f (get_or ps j no_pair)) (length ps)
all_list f ps =
    let k = all_right (λ j. f (get_or ps j no_pair)) (length ps) in
    same_test _ _ (
      λ e. k.1 (λ j q. All-get_or (λ p. f p ≡ true) ps j no_pair q (AllPass-from_list_all f ps e)),
      λ e. list_all-from_AllPass f ps (All-from_get_or (λ p. f p ≡ true) ps no_pair (k.0 e)),
    )

pub gaps_walk : (spec : Spec) (xs : List (List ℕ)) → list_all (λ x. gap_allowed spec (get_or x 0 0)) xs ≡ gaps_allowed spec (pairs_in Minutes xs)
unfolding gaps_allowed pair_gap
gaps_walk spec xs = sym (list_all-map (λ p. gap_allowed spec p.gap) (pair_in Minutes) xs) ∙ all_list (λ p. gap_allowed spec p.gap) (pairs_in Minutes xs)

pub sizes_walk : (spec : Spec) (xs : List (List ℕ)) → list_all (λ x. size_allowed spec (get_or x 1 0)) xs ≡ sizes_allowed spec (pairs_in Minutes xs)
unfolding sizes_allowed pair_size
sizes_walk spec xs = sym (list_all-map (λ p. size_allowed spec p.size) (pair_in Minutes) xs) ∙ all_list (λ p. size_allowed spec p.size) (pairs_in Minutes xs)
