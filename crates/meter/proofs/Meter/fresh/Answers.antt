-- `fresh` meets its contract: what an absent supply rate stands for is the definition's.
use Rattle.meter.proofs.Making.{supply_of}
use Rattle.meter.proofs.Meter.fresh.Goals as goal

pub returns : goal.returns
returns c = rw (c.unwrap_or-supply.ensures, supply_of c.args.spec.supply)
