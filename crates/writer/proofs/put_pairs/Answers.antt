use Rattle.std.proofs.Common.{◌<◌, ◌/◌, length, arith}
use mathlib.Core.Path.{refl, ◌∙◌}
use native.Mathlib.Nat.{le_refl}
use Rattle.pairs.specs.Pairs.{pairs_of}
use Rattle.pairs.proofs.FlatLists.{length_pairs_of, chunk_pairs_of}
use Rattle.cyclefile.proofs.Fields.{length_cycle_bytes}
use Rattle.writer.proofs.StoredBytes.{left_next, left_none, stored_next}
use Rattle.writer.proofs.put_pairs.Goals as goal

pub loop-gap-init : goal.loop-gap-init
loop-gap-init c = record { room = omega (arith, length_cycle_bytes (pairs_of c.args.words.now), c.requires); left = refl }

pub put_pair-at-requires : goal.put_pair-at-requires
put_pair-at-requires c =
    let words = c.args.words.now in
    let l = c.loop-gap in
    let inside : l.gap-index < length words / 2 = omega (arith, c.as_chunks.ensures.front_len) in
    rw (c.as_chunks.ensures.front, chunk_pairs_of words (length words / 2) l.gap-index inside (le_refl _))
    (omega (arith, l.invariant.room, l.auto.file, left_next l.before (pairs_of words) l.gap-index l.at _ (rw length_pairs_of inside) refl))

pub loop-gap-preserved : goal.loop-gap-preserved
loop-gap-preserved c =
    let words = c.args.words.now in
    let l = c.loop-gap in
    let inside : l.gap-index < length words / 2 = omega (arith, c.as_chunks.ensures.front_len) in
    let there : l.gap-index < length (pairs_of words) = rw length_pairs_of inside in
    rw (c.put_pair-at.ensures.stored, c.put_pair-at.ensures.end, c.as_chunks.ensures.front, chunk_pairs_of words (length words / 2) l.gap-index inside (le_refl _))
    (record {
      room = omega (arith, l.invariant.room, left_next l.before (pairs_of words) l.gap-index l.at _ there refl);
      left = stored_next l.before (pairs_of words) l.gap-index l.at l.file there ∙ l.invariant.left;
    })

pub returns : goal.returns
returns c =
    let l = c.loop-gap in
    rw (left_none l.before (pairs_of c.args.words.now) l.gap-index (rw length_pairs_of (omega (arith, c.as_chunks.ensures.front_len)))) at l.invariant.left
