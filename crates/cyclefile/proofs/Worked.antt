-- Worked files: what the definitions give for one cycle and for files that are turned down, computed. The cycle is document 01's sample G,
-- (5, 3), (5, 2).
use mathlib.Core.Path.{◌≡◌, refl}
use Prim.Native.Nat.{ℕ}
use mathlib.Core.List.{List, [], ◌∷◌}
use Rattle.std.specs.Prelude.{Ok, Err}
use Rattle.pairs.specs.declared.Pair.{Pair}
use Rattle.cyclefile.specs.File.{pair_bytes, pairs_bytes, cycle_bytes, read_pair, read_pairs, read_count, read_cycle}

abbrev sample : List Pair
sample = record { gap = 5; size = 3 } ∷ record { gap = 5; size = 2 } ∷ []

-- the second pair's gap is left out
abbrev file : List ℕ
file = 0 ∷ 2 ∷ 3 ∷ 0 ∷ 5 ∷ 0 ∷ 3 ∷ 2 ∷ 0 ∷ 2 ∷ []

written : cycle_bytes sample ≡ file
unfolding cycle_bytes pairs_bytes pair_bytes
written = refl

read : read_cycle 2 file ≡ Ok sample
unfolding read_cycle read_count read_pairs read_pair
read = refl

one_place : read_cycle 1 file ≡ Err 20
unfolding read_cycle read_count read_pairs read_pair
one_place = refl

one_byte : read_cycle 512 (0 ∷ []) ≡ Err 18
unfolding read_cycle read_count read_pairs read_pair
one_byte = refl

count_513 : read_cycle 600 (2 ∷ 1 ∷ []) ≡ Err 12
unfolding read_cycle read_count read_pairs read_pair
count_513 = refl

no_map_byte : read_cycle 512 (0 ∷ 1 ∷ []) ≡ Err 18
unfolding read_cycle read_count read_pairs read_pair
no_map_byte = refl

first_lacks_its_size : read_cycle 512 (0 ∷ 1 ∷ 1 ∷ 0 ∷ 5 ∷ []) ≡ Err 17
unfolding read_cycle read_count read_pairs read_pair
first_lacks_its_size = refl

gap_repeated : read_cycle 512 (0 ∷ 2 ∷ 3 ∷ 0 ∷ 5 ∷ 0 ∷ 3 ∷ 1 ∷ 0 ∷ 5 ∷ []) ≡ Err 19
unfolding read_cycle read_count read_pairs read_pair
gap_repeated = refl

-- the gap is repeated too, but that the size is cut comes first
size_cut : read_cycle 512 (0 ∷ 2 ∷ 3 ∷ 0 ∷ 5 ∷ 0 ∷ 3 ∷ 3 ∷ 0 ∷ 5 ∷ 0 ∷ []) ≡ Err 18
unfolding read_cycle read_count read_pairs read_pair
size_cut = refl

one_byte_over : read_cycle 512 (0 ∷ 1 ∷ 3 ∷ 0 ∷ 5 ∷ 0 ∷ 3 ∷ 0 ∷ []) ≡ Err 21
unfolding read_cycle read_count read_pairs read_pair
one_byte_over = refl
