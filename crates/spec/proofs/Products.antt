-- A product of two bounded numbers is bounded, and fits k bits.
use Prim.Native.Nat.{ℕ, ◌*◌, ◌^◌, ◌≤◌, ◌<◌}
use native.Mathlib.Nat.{mul-le-mul, lt_of_le_of_lt}
use lib.Dec.{T, ltb, ltb→lt}

pub fits_mul : (k x y : ℕ) {a b : ℕ} → T (ltb (x * y) (2 ^ k)) → a ≤ x → b ≤ y → a * b < 2 ^ k
fits_mul k x y t ha hb = lt_of_le_of_lt (mul-le-mul ha hb) (ltb→lt (x * y) (2 ^ k) t)
