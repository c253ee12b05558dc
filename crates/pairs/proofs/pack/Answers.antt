-- Each turn packs one pair more, and at the end all are packed.
use Rattle.std.proofs.Common.{◌<◌, ◌/◌, length, arith}
use mathlib.Core.Path.{◌∙◌}
use native.Mathlib.Nat.{le_refl}
use Rattle.pairs.proofs.FlatLists.{chunk_pairs_of}
use Rattle.pairs.proofs.Packed.{packed_next, packed_all, packed_none}
use Rattle.pairs.proofs.pack.Goals as goal

pub returns-then-places-numbers : goal.returns-then-places-numbers
returns-then-places-numbers c = packed_none _ _ (omega arith)

pub loop-i-preserved : goal.loop-i-preserved
loop-i-preserved c =
    let words = c.args.words.now in
    let inside : c.loop-i.i < length words / 2 = omega (arith, c.as_chunks.ensures.front_len) in
    rw (c.as_chunks.ensures.front, chunk_pairs_of words (length words / 2) c.loop-i.i inside (le_refl _), c.loop-i.invariant) (packed_next words c.args.places.now c.loop-i.i inside (omega arith))

pub returns : goal.returns
returns c = c.loop-i.invariant ∙ packed_all c.args.words.now c.args.places.now c.loop-i.i (omega (arith, c.as_chunks.ensures.front_len)) (omega arith)
