-- The first line and those of the reports passed are written.
use Prim.Native.Nat.{◌+◌}
use Rattle.std.specs.Io.KnownBytes.{Appends}
use Rattle.even.specs.Even.{even_of}
use Rattle.evenplan.specs.Text.{lines_of}
use Rattle.evenplan.proofs.write_plan.Given as goal

abbrev pub invariant-loop-i : goal.invariant-loop-i
invariant-loop-i g l = Appends (g.W.Write.contents l.fn.out) (g.W.Write.contents l.out) (lines_of (even_of l.fn.front) (l.i + 1))
