-- What is left of the file, read after the pairs that are stored, decides the answer and the words at the end (`pass_from`). A step stores
-- its pair, stops with its refusal, or none is left. Assumes nothing.
use mathlib.Core.Path.{◌≡◌}
use Prim.Native.Nat.{◌-◌}
use Rattle.std.specs.Prelude.{None}
use Rattle.cyclefile.proofs.OnePass.{pass_from}
use Rattle.cyclefile.proofs.reading.read_pairs.Given as goal

abbrev pub invariant-loop-i : goal.invariant-loop-i
invariant-loop-i l = pass_from l.words l.i (l.count - l.i) l.before l.rest ≡ pass_from l.initial.words 0 l.count None l.initial.rest
