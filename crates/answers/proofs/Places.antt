-- A refusal leaves every place as it was, and an answer of one value is stored whatever its type.
use Prim.Native.Nat.{ℕ}
use mathlib.Core.Path.{◌≡◌, refl}
use mathlib.Core.Bool.{Bool, true, false, cond}
use lib.Dec.{eqb}
use Rattle.std.specs.Prelude.{Result, Ok, Err}
use Rattle.std.specs.Result.{result_unwrap_or}
use Rattle.spec.specs.declared.refusal.Refusal.{Refusal}
use Rattle.spec.specs.Refusals.{number_of, numbered, answer_number}
use Rattle.answers.specs.Answers.{refusal, value_answer, held_after}

either : (b : Bool) (held : ℕ) → held ≡ cond b held held
either true held = refl
either false held = refl

pub after_refusal : (when i n held : ℕ) → held ≡ held_after when i (refusal n) held
unfolding held_after
after_refusal when i n held = either (eqb n when) held

-- of numbers, what `value_answer` of the code gives is what that of the definitions says
pub value_number : (found : Result ℕ Refusal) → answer_number found ≡ (value_answer (numbered found)).number
value_number (Ok x) = refl
value_number (Err r) = refl

pub value_place : (found : Result ℕ Refusal) (held : ℕ) → result_unwrap_or found held ≡ held_after 0 0 (value_answer (numbered found)) held
unfolding held_after
value_place (Ok x) held = refl
value_place (Err r) held = either (eqb (number_of r) 0) held
