-- A test does not pass and fail; that of two numbers passes exactly when the first is below the second.
use Prim.Native.Nat.{ℕ, ◌<◌}
use native.Mathlib.Omega.{arith}
use mathlib.Core.Path.{◌≡◌}
use mathlib.Core.Logic.{◌↔◌}
use mathlib.Core.Bool.{Bool, true, false}
use lib.Dec.{ltb}
use borrow.Author.Tests.{ltb-true, lt-ltb}

pub not_both : (b : Bool) → b ≡ true → b ≡ false → ⊥
not_both b p q = absurd (let z : ◌≡◌ {A = ℕ} 0 1 = cc in omega arith)

pub ltb_iff : (a b : ℕ) → (ltb a b ≡ true) ↔ (a < b)
ltb_iff a b = (ltb-true a b, lt-ltb a b)
