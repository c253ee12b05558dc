-- The first 26 bytes of a file decide how it is read: no map calls for more than 25, so where there are more than 26, both the file and
-- its first 26 bytes get 1 by their first byte, or 2.
use Prim.Native.Nat.{ℕ, ◌/◌, ◌^◌, ◌≤◌, ◌<◌}
use native.Mathlib.Omega.{arith}
use native.Mathlib.Nat.{mod-lt}
use native.Mathlib.Decide.{dec_lt}
use mathlib.Core.Path.{◌≡◌, ap}
use mathlib.Core.List.{List}
use lib.ListN.{length, take, get_or}
use lib.Seq.{take_all, length-take-le, get_or-take}
use borrow.Author.Tests.{lt-ltb, ne_eqb}
use Rattle.spec.specs.File.{bit, file_length, read_spec}
use Rattle.even.specs.Even.{even_of}

bit_most : (m k : ℕ) → bit m k < 2
bit_most m k = mod-lt (m / 2 ^ k) (omega arith)

file_short : (m : ℕ) → file_length m ≤ 25
file_short m = omega (arith, bit_most m 2, bit_most m 3, bit_most m 4, bit_most m 5)

read_front : (b : List ℕ) → read_spec (take 26 b) ≡ read_spec b
unfolding read_spec
read_front b = elim (dec_lt 26 (length b)) [ yes h ↦ long h | no h ↦ ap read_spec (take_all 26 b (omega arith)) ]
  where
    long : 26 < length b → read_spec (take 26 b) ≡ read_spec b
    long h =
        let m = get_or b 0 0 in
        let front : length (take 26 b) ≡ 26 = length-take-le 26 b (omega arith) in
        let short = file_short m in
        let too_long = ne_eqb (length b) (file_length m) (λ e. omega arith) in
        let front-too-long = ne_eqb 26 (file_length m) (λ e. omega arith) in
        rw (get_or-take 26 b 0 0 (omega arith), front, front-too-long, too_long, lt-ltb 0 (length b) (omega arith))

pub even_of_front : (b : List ℕ) → even_of (take 26 b) ≡ even_of b
even_of_front b = rw (read_front b)
