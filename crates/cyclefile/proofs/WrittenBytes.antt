-- The file of a cycle of 16-bit numbers is made of bytes, so it can be read and written back.
use Prim.Native.Nat.{ℕ, zero, suc, ◌/◌, ◌%◌, ◌≤◌, ◌<◌}
use native.Mathlib.Omega.{arith}
use mathlib.Core.Bool.{Bool, true, false}
use mathlib.Core.List.{List, [], ◌∷◌, ◌++◌}
use lib.ListN.{length}
use Rattle.std.specs.Prelude.{Option, None, Some}
use Rattle.pairs.specs.declared.Pair.{Pair}
use Rattle.cyclefile.specs.File.{AreBytes, Words, bytes_of, gap_stands, size_stands, map_byte, field_bytes, pair_bytes, pairs_bytes, cycle_bytes}

no_bytes : AreBytes []
no_bytes i = omega arith

with_byte : (a : ℕ) (l : List ℕ) → a < 256 → AreBytes l → AreBytes (a ∷ l)
with_byte a l h k zero = h
with_byte a l h k (suc i) = k i

and_bytes : (l m : List ℕ) → AreBytes l → AreBytes m → AreBytes (l ++ m)
and_bytes [] m h k = k
and_bytes (a ∷ l) m h k = with_byte a (l ++ m) (h 0) (and_bytes l m (λ i. h (suc i)) k)

number_bytes : (n : ℕ) → n < 65536 → AreBytes (bytes_of n)
number_bytes n h = with_byte (n / 256) (n % 256 ∷ []) (omega arith) (with_byte (n % 256) [] (omega arith) no_bytes)

field_bytes_lem : (stands : Bool) (n : ℕ) → n < 65536 → AreBytes (field_bytes stands n)
field_bytes_lem true n h = number_bytes n h
field_bytes_lem false n h = no_bytes

map_small : (gap size : Bool) → map_byte gap size < 256
map_small true true = omega arith
map_small true false = omega arith
map_small false true = omega arith
map_small false false = omega arith

pair_bytes_lem : (before : Option Pair) (p : Pair) → p.gap < 65536 → p.size < 65536 → AreBytes (pair_bytes before p)
unfolding pair_bytes
pair_bytes_lem before p g s =
    let gap = field_bytes (gap_stands before p) p.gap in
    let size = field_bytes (size_stands before p) p.size in
    with_byte (map_byte (gap_stands before p) (size_stands before p)) (gap ++ size) (map_small (gap_stands before p) (size_stands before p))
    (and_bytes gap size (field_bytes_lem (gap_stands before p) p.gap g) (field_bytes_lem (size_stands before p) p.size s))

all_bytes : (before : Option Pair) (ps : List Pair) → Words ps → AreBytes (pairs_bytes before ps)
unfolding pairs_bytes
all_bytes before [] w = no_bytes
all_bytes before (p ∷ ps) w = and_bytes (pair_bytes before p) (pairs_bytes (Some p) ps) (pair_bytes_lem before p w.0 w.1.0) (all_bytes (Some p) ps w.1.1)

pub writes_bytes : (ps : List Pair) → length ps ≤ 512 → Words ps → AreBytes (cycle_bytes ps)
unfolding cycle_bytes
writes_bytes ps few w = and_bytes (bytes_of (length ps)) (pairs_bytes None ps) (number_bytes (length ps) (omega arith)) (all_bytes None ps w)
