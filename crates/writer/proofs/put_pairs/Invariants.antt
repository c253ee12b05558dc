-- Storing the pairs that are left, behind those that are stored, gives what is to be there at the end; a turn stores the first of them
-- (`stored_next`). Assumes nothing.
use mathlib.Core.Path.{◌≡◌}
use Prim.Native.Nat.{◌+◌, ◌≤◌}
use lib.ListN.{length, drop}
use lib.Seq.{sets}
use Rattle.std.specs.Prelude.{None}
use Rattle.pairs.specs.Pairs.{pairs_of}
use Rattle.cyclefile.specs.File.{pairs_bytes}
use Rattle.writer.proofs.put_pairs.Given as goal

abbrev pub invariant-loop-gap : goal.invariant-loop-gap
invariant-loop-gap l = record {
  room : l.at + length (pairs_bytes l.before (drop l.gap-index (pairs_of l.words))) ≤ length l.initial.file;
  left : sets l.file l.at (pairs_bytes l.before (drop l.gap-index (pairs_of l.words))) ≡ sets l.initial.file 2 (pairs_bytes None (pairs_of l.words));
}
