use Rattle.std.proofs.Common.{◌<◌, ◌/◌, length, arith}
use mathlib.Core.Path.{sym}
use native.Mathlib.Nat.{le_refl}
use Rattle.pairs.specs.Pairs.{pairs_of}
use Rattle.pairs.proofs.FlatLists.{length_pairs_of, chunk_pairs_of}
use Rattle.cyclefile.specs.File.{cycle_bytes}
use Rattle.cyclefile.proofs.Fields.{length_cycle_bytes}
use Rattle.writer.proofs.StoredBytes.{left_next, left_none}
use Rattle.writer.proofs.file_length.Goals as goal

pub loop-gap-init : goal.loop-gap-init
loop-gap-init c = record { small = le_refl 2; left = sym (length_cycle_bytes (pairs_of c.args.words.now)) }

pub loop-gap-preserved : goal.loop-gap-preserved
loop-gap-preserved c =
    let words = c.args.words.now in
    let l = c.loop-gap in
    let inside : l.gap-index < length words / 2 = omega (arith, c.as_chunks.ensures.front_len) in
    let there : l.gap-index < length (pairs_of words) = rw length_pairs_of inside in
    record {
      small = omega (arith, c.pair_length-length.ensures.most);
      left =
          rw (c.pair_length-length.ensures.length, c.as_chunks.ensures.front, chunk_pairs_of words (length words / 2) l.gap-index inside (le_refl _))
          (left_next l.before (pairs_of words) l.gap-index l.length (length (cycle_bytes (pairs_of words))) there l.invariant.left);
    }

pub returns : goal.returns
returns c =
    let l = c.loop-gap in
    let e = rw (left_none l.before (pairs_of c.args.words.now) l.gap-index (rw length_pairs_of (omega (arith, c.as_chunks.ensures.front_len)))) at l.invariant.left in
    omega arith
