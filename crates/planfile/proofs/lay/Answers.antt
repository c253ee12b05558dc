-- Each turn lays the pair of one report more.
use native.Mathlib.Omega.{arith}
use mathlib.Core.Path.{◌∙◌}
use Rattle.planfile.proofs.Laid.{laid_report, laid_all}
use Rattle.planfile.proofs.lay.Goals as goal

pub loop-i-preserved : goal.loop-i-preserved
loop-i-preserved c = rw c.loop-i.invariant (laid_report c.args.proper.plan c.args.words.now c.requires (omega arith) c.gap.ensures.0 c.size.ensures.0)

pub returns : goal.returns
returns c = c.loop-i.invariant ∙ laid_all c.args.proper.plan c.args.words.now c.requires (omega arith)
