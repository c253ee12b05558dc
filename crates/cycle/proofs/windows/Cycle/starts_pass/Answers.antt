-- A look at each report of the round judges its stretch.
use native.Mathlib.Omega.{arith}
use mathlib.Core.Path.{◌≡◌, ◌∙◌, sym}
use borrow.Author.Count.{below_more}
use Rattle.numbers.proofs.All.{all_pass, one_fails}
use Rattle.schedule.specs.Schedules.{stretch}
use Rattle.cycle.specs.Margins.{begins}
use Rattle.cycle.specs.Windows.{run_in, within, starts_pass}
use Rattle.cycle.proofs.Chunks.{length_pairs_in}
use Rattle.cycle.proofs.windows.Cycle.starts_pass.Goals.{After-within}
use Rattle.cycle.proofs.windows.Cycle.starts_pass.Goals as goal

pub look-look-requires : goal.look-look-requires
look-look-requires c = (c.loop-w-test.true, c.walk-walk.ensures.2, c.loop-w.invariant.spans)

-- what a turn has found when the stretch is judged
judged : (c : After-within) → let s = run_in c.args.self.now.by c.args.self.now.pairs.now in
    c.within.result ≡ within c.args.side (stretch s (begins c.args.side s c.loop-w.w.first) c.args.rate.minutes) c.args.rate.records
judged c = rw (c.within.ensures, c.from.ensures, c.look-look.ensures.records, c.walk-walk.ensures.0, c.walk-walk.ensures.1)

pub returns-then-not-within : goal.returns-then-not-within
unfolding starts_pass
returns-then-not-within c =
    one_fails _ _ _ (rw length_pairs_in c.loop-w-test.true) (sym (judged (goal.at.returns-then-not-within c).After-within) ∙ c.if-not-within.true)

pub loop-w-preserved : goal.loop-w-preserved
loop-w-preserved c =
    let within = sym (judged (goal.at.loop-w-preserved c).After-within) ∙ c.if-not-within.false in
    record {
      inside = omega (arith, c.look-look.ensures.first, c.loop-w-test.true);
      spans = c.look-look.ensures.spans;
      passed = rw c.look-look.ensures.first (below_more _ _ c.loop-w.invariant.passed within);
    }

pub returns : goal.returns
unfolding starts_pass
returns c = all_pass _ _ c.loop-w.w.first (rw length_pairs_in (omega arith)) c.loop-w.invariant.passed
