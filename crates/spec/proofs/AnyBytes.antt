-- Whatever the bytes are, they are read to an accepted specification, or to 1 to 4 or 24.
use Prim.Native.Nat.{ℕ, ◌≤◌}
use native.Mathlib.Omega.{arith}
use mathlib.Core.Path.{◌≡◌, refl}
use mathlib.Core.Logic.{◌⊎◌, inl, inr, ⊎_elim}
use mathlib.Core.Bool.{Bool, true, false, cond, ◌&&◌}
use mathlib.Core.List.{List}
use lib.Dec.{ltb, eqb}
use lib.ListN.{length, get_or}
use Rattle.std.specs.Prelude.{Result, Ok, Err}
use Rattle.spec.specs.declared.Spec.{Spec}
use Rattle.spec.specs.Limits.{spec_number, IsAccepted}
use Rattle.spec.specs.File.{map_good, file_length, spec_at, accept, read_spec}
use Rattle.spec.proofs.GoingOn.{none_or, goes_on, stops, number_few}

abbrev pub SpecIsRead : Result Spec ℕ → Type 0
SpecIsRead x = ((s : Spec) × ((x ≡ Ok s) × IsAccepted s)) ⊎ ((n : ℕ) × ((x ≡ Err n) × (((1 ≤ n) × (n ≤ 4)) ⊎ (n ≡ 24))))

accept_is_read : (s : Spec) → SpecIsRead (accept s)
accept_is_read s =
    ⊎_elim
    (λ a. inl (s, (goes_on (spec_number s) (Ok s) Err a, a)))
    (λ a. inr (spec_number s, (stops (spec_number s) (Ok s) Err a, ⊎_elim (λ few. inl (omega arith, few.1)) (λ is. inr is) (number_few s a))))
    (none_or (spec_number s))

-- what holds of both choices holds of the one taken
either : (b : Bool) {x y : Result Spec ℕ} → SpecIsRead x → SpecIsRead y → SpecIsRead (cond b x y)
either true px py = px
either false px py = py

pub spec_is_read : (bytes : List ℕ) → SpecIsRead (read_spec bytes)
unfolding read_spec
spec_is_read bytes =
    either (ltb 0 (length bytes) && map_good (get_or bytes 0 0))
    (either (eqb (length bytes) (file_length (get_or bytes 0 0))) (accept_is_read (spec_at (get_or bytes 0 0) bytes)) (inr (2, (refl, inl (omega arith, omega arith)))))
    (inr (1, (refl, inl (omega arith, omega arith))))
