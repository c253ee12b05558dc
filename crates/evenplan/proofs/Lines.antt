-- What is written by one line of an answer after another.
use Prim.Native.Nat.{ℕ, ◌+◌}
use native.Mathlib.Numerals.{add-one}
use mathlib.Core.List.{List}
use Rattle.std.specs.Prelude.{Result}
use Rattle.std.specs.declared.option.Option.{Option}
use Rattle.std.specs.Io.KnownBytes.{Appends}
use Rattle.std.proofs.KnownBytes.{Appends-trans}
use Rattle.plan.specs.declared.Plan.{Plan}
use Rattle.evenplan.specs.Text.{line_of, lines_of}

-- one line more of an answer
pub lines_more : (old mid new : Option (List ℕ)) (answer : Result Plan ℕ) (n : ℕ) → Appends old mid (lines_of answer n) → Appends mid new (line_of answer n)
    → Appends old new (lines_of answer (n + 1))
lines_more old mid new answer n p q = rw (add-one n) (Appends-trans old mid new (lines_of answer n) (line_of answer n) p q)
