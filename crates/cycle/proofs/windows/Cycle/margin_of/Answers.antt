-- A rate that is absent has no margin; one that is there has that of its minutes.
use Rattle.cycle.specs.Margins.{margin_of}
use Rattle.cycle.proofs.windows.Cycle.margin_of.Goals as goal

pub margin-requires : goal.margin-requires
margin-requires c = rw c.in_ok-x.was at c.requires

pub returns-in_err-x : goal.returns-in_err-x
unfolding margin_of
returns-in_err-x c = rw (c.from_residual.ensures, c.in_err-x.was)

pub returns : goal.returns
unfolding margin_of
returns c = rw (c.margin.ensures, c.in_ok-x.was)
