-- dmax and smax are no 0 in an accepted specification.
use native.Mathlib.Omega.{arith}
use mathlib.Core.Path.{◌∙◌}
use Rattle.numbers.proofs.Ceilings.{div_ceil_is}
use Rattle.families.proofs.Plans.{planning_facts}
use Rattle.feasibility.specs.Test.{first_count}
use Rattle.feasibility.proofs.first_count.Goals as goal

pub div_ceil-requires : goal.div_ceil-requires
div_ceil-requires c = let t = planning_facts c.args.planning in omega arith

pub div_ceil-requires-in-MaximumSupply : goal.div_ceil-requires-in-MaximumSupply
div_ceil-requires-in-MaximumSupply c = let t = planning_facts c.args.planning in omega arith

pub returns-in-MinimumDemand : goal.returns-in-MinimumDemand
unfolding first_count
returns-in-MinimumDemand c =
    let t = planning_facts c.args.planning in
    rw (c.in-MinimumDemand.is, c.div_ceil.ensures ∙ div_ceil_is _ _ (omega arith))

pub returns-in-MaximumSupply : goal.returns-in-MaximumSupply
unfolding first_count
returns-in-MaximumSupply c =
    let t = planning_facts c.args.planning in
    rw (c.in-MaximumSupply.is, c.div_ceil-in-MaximumSupply.ensures ∙ div_ceil_is _ _ (omega arith))
