-- The bytes passed and those of the pairs left are the file's; a pair has at most 5, so that no sum wraps. Assumes nothing.
use mathlib.Core.Path.{◌≡◌}
use Prim.Native.Nat.{◌+◌, ◌*◌, ◌≤◌}
use lib.ListN.{length, drop}
use Rattle.pairs.specs.Pairs.{pairs_of}
use Rattle.cyclefile.specs.File.{pairs_bytes, cycle_bytes}
use Rattle.writer.proofs.file_length.Given as goal

abbrev pub invariant-loop-gap : goal.invariant-loop-gap
invariant-loop-gap l = record {
  small : l.length ≤ 2 + 5 * l.gap-index;
  left : l.length + length (pairs_bytes l.before (drop l.gap-index (pairs_of l.words))) ≡ length (cycle_bytes (pairs_of l.words));
}
