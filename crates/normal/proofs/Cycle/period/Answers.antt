-- A number that does not divide the count is not the period, and one that does is it as soon as the list repeats by it. None up to half of the
-- count is left: the period is the count.
use native.Mathlib.Omega.{arith}
use mathlib.Core.Path.{sym, ◌∙◌}
use Rattle.normal.proofs.Periods.{period_some, period_found, period_above, period_divisor, period_whole}
use Rattle.normal.proofs.Cycle.period.Goals.{else-count-n-eq0-via-then-count-n-eq0+else-repeats, else-count-n-eq0-via-else-count-n-eq0}
use Rattle.normal.proofs.Cycle.period.Goals as goal

pub loop-n-init : goal.loop-n-init
loop-n-init c = period_some _ c.args.self.now.some

pub returns-then-repeats : goal.returns-then-repeats
returns-then-repeats c =
    period_found _ c.args.self.now.some _ c.loop-n.auto.n c.loop-n.invariant (sym c.repeats.ensures ∙ c.if-repeats.true)

pub loop-n-preserved : goal.loop-n-preserved
loop-n-preserved c =
    elim c.else-count-n-eq0.branch [
      | else-count-n-eq0-via-then-count-n-eq0+else-repeats w ↦
          period_above _ c.args.self.now.some _ c.loop-n.auto.n c.loop-n.invariant (sym w.repeats.ensures ∙ w.if-repeats.false)
      | else-count-n-eq0-via-else-count-n-eq0 w ↦ period_divisor _ c.args.self.now.some _ c.loop-n.auto.n c.loop-n.invariant w.if-count-n-eq0.false
    ]

pub returns : goal.returns
returns c = period_whole _ c.args.self.now.some (omega (arith, c.loop-n.invariant))
