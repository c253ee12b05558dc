-- The reports of this round, and those of the next.
use Rattle.normal.proofs.TwoParts.{two_parts}
use Rattle.normal.proofs.Cycle.store.Goals as goal

pub returns : goal.returns
returns c =
    two_parts c.args.self.now.pairs.now c.args.start c.args.n c.min-front.result c.requires.0 c.requires.1 c.min-front.ensures _ _ c.args.places.now
    c.copy_from_slice.ensures.after
    c.copy_from_slice-2.ensures.after
