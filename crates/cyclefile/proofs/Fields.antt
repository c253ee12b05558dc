-- Laws of a pair's fields: how long they are, and what a flag says of the pair before. Assumes nothing.
use mathlib.Core.Path.{◌≡◌, refl}
use Prim.Native.Nat.{ℕ, ◌+◌, ◌≤◌}
use native.Mathlib.Omega.{arith}
use mathlib.Core.Bool.{Bool, true, false}
use lib.Dec.{lit≤}
use lib.ListN.{length, length-append}
use mathlib.Core.List.{List}
use Rattle.std.specs.Prelude.{Option, None}
use Rattle.pairs.specs.declared.Pair.{Pair}
use Rattle.cyclefile.specs.File.{gap_stands, size_stands, field_bytes, field_length, pair_bytes, pairs_bytes, cycle_bytes}

pub field_length_small : (t : Bool) → field_length t ≤ 2
field_length_small true = lit≤ tt
field_length_small false = lit≤ tt

-- ---- how long the parts of a file are

pub length_field_bytes : (t : Bool) (n : ℕ) → length (field_bytes t n) ≡ field_length t
length_field_bytes true n = refl
length_field_bytes false n = refl

pub length_pair_bytes : (before : Option Pair) (p : Pair) → length (pair_bytes before p) ≡ 1 + field_length (gap_stands before p) + field_length (size_stands before p)
unfolding pair_bytes
length_pair_bytes before p = simp (length-append, length_field_bytes) (omega arith)

pub pair_bytes_small : (before : Option Pair) (p : Pair) → length (pair_bytes before p) ≤ 5
pair_bytes_small before p = omega (arith, length_pair_bytes before p, field_length_small (gap_stands before p), field_length_small (size_stands before p))

pub length_cycle_bytes : (ps : List Pair) → length (cycle_bytes ps) ≡ 2 + length (pairs_bytes None ps)
unfolding cycle_bytes
length_cycle_bytes ps = omega arith
