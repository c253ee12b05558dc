-- What is left of the file, read after the pairs that are judged, decides the answer. A step takes its pair, stops with its refusal, or
-- none is left. Assumes nothing.
use mathlib.Core.Path.{◌≡◌}
use Prim.Native.Nat.{◌-◌}
use Rattle.std.specs.Prelude.{None}
use Rattle.cyclefile.specs.File.{read_pairs}
use Rattle.cyclefile.proofs.OnePass.{answer_from}
use Rattle.cyclefile.proofs.reading.judge_pairs.Given as goal

abbrev pub invariant-loop : goal.invariant-loop
invariant-loop l = answer_from l.counter (read_pairs (l.count - l.counter) l.before l.rest) ≡ answer_from 0 (read_pairs l.count None l.initial.rest)
