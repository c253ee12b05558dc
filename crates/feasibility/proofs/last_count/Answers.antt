-- smin and dmin are no 0 in an accepted specification.
use Rattle.families.proofs.Plans.{planning_facts}
use Rattle.feasibility.proofs.last_count.Goals as goal

pub nonzero_div-result : goal.nonzero_div-result
nonzero_div-result c = (planning_facts c.args.planning).gap_low

pub nonzero_div-result-in-MaximumSupply : goal.nonzero_div-result-in-MaximumSupply
nonzero_div-result-in-MaximumSupply c = (planning_facts c.args.planning).size_low
