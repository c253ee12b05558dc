use Rattle.cycle.specs.Shortest.{shortest_full}
use Rattle.cycle.proofs.ShownRows.{full_given}
use Rattle.cycle.proofs.shortest.full_row.Goals as goal

pub returns-in_err-x : goal.returns-in_err-x
unfolding shortest_full
returns-in_err-x c = rw (c.from_residual.ensures, c.in_err-x.was)

pub returns : goal.returns
returns c = rw c.in_ok-x.was (full_given _ c.requires.0 _ _ c.shortest.ensures)
