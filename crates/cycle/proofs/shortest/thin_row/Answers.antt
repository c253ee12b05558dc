use Rattle.std.specs.Prelude.{None, Some}
use Rattle.cycle.specs.Shortest.{shortest_thin}
use Rattle.cycle.proofs.ShownRows.{some_reports, thin_given}
use Rattle.cycle.proofs.shortest.thin_row.Goals as goal

pub returns-in_err-x : goal.returns-in_err-x
unfolding shortest_thin
returns-in_err-x c = rw (c.from_residual.ensures, c.in_err-x.was)

pub returns-in_err-row : goal.returns-in_err-row
returns-in_err-row c = rw (c.from_residual-in_err-row.ensures, c.in_ok-x.was) (thin_given _ c.requires _ None c.in_err-row.ensures)

pub without_first-requires : goal.without_first-requires
without_first-requires c = some_reports _ c.in_ok-x.x _ _ c.in_ok-row.ensures.shown

pub returns : goal.returns
returns c = rw (c.without_first.ensures, c.in_ok-x.was) (thin_given _ c.requires _ (Some c.in_ok-row.row) c.in_ok-row.ensures)
