-- The list repeats by n exactly when it equals itself n places on.
use Rattle.normal.proofs.Shifted.{repeats_parts}
use Rattle.normal.proofs.Cycle.repeats.Goals as goal

pub returns : goal.returns
returns c = repeats_parts _ _ c.requires.0 c.requires.1 c.requires.2 _ c.eq.ensures
