-- dmax and smin are no 0 in an accepted specification.
use native.Mathlib.Omega.{arith}
use mathlib.Core.Path.{◌∙◌}
use Rattle.spec.proofs.Facts.{facts}
use Rattle.consistency.specs.Consistency.{where_there, enough_reports_for_demand}
use Rattle.numbers.proofs.Ceilings.{div_ceil_is}
use Rattle.consistency.proofs.enough_reports_for_demand.Goals as goal

pub div_ceil-requires : goal.div_ceil-requires
div_ceil-requires c = let f = facts _ c.args.accepted.accepted in omega arith

pub nonzero_div-result : goal.nonzero_div-result
nonzero_div-result c = (facts _ c.args.accepted.accepted).gap_low

pub returns : goal.returns
unfolding enough_reports_for_demand where_there
returns c =
    let f = facts _ c.args.accepted.accepted in
    rw (c.in-Some.is, c.div_ceil.ensures ∙ div_ceil_is _ _ (omega arith))
