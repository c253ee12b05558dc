-- The second range is looked through first.
use Rattle.std.proofs.Common.{rules}
use Rattle.spec.proofs.Facts.{ranges_rise}
use Rattle.even.specs.Even.{fits, even_gap}
use Rattle.even.proofs.BothRanges.{either_range}
use Rattle.even.proofs.even_gap.Goals as goal

pub returns : goal.returns
unfolding even_gap
returns c =
    let spec = c.args.accepted.spec in
    either_range spec (fits spec) (ranges_rise spec c.args.accepted.accepted) c.gap_of.result c.or_else.result c.gap_of.ensures (search rules)
