-- `make_from` meets its contract: what was read is mapped, as in the definition.
use Rattle.meter.proofs.Making.{made_of}
use Rattle.meter.proofs.make_from.Goals as goal

pub returns : goal.returns
returns c = made_of _ _ _ c.read_spec.ensures c.map.ensures.cases
