-- A look at each report of the round makes the best the farthest of one report more.
use native.Mathlib.Omega.{arith}
use mathlib.Core.Path.{◌≡◌}
use lib.ListN.{length}
use Rattle.cycle.proofs.Chunks.{length_pairs_in}
use Rattle.cycle.proofs.FarthestOut.{farther_step, best_given}
use Rattle.cycle.proofs.windows.Cycle.margin.Goals as goal

pub look-look-requires : goal.look-look-requires
look-look-requires c = (c.loop-w-test.true, c.walk-walk.ensures.2, c.loop-w.invariant.spans)

pub loop-w-preserved : goal.loop-w-preserved
loop-w-preserved c = record {
  inside = omega (arith, c.look-look.ensures.first, c.loop-w-test.true);
  spans = c.look-look.ensures.spans;
  best = rw (c.farther-best.ensures, c.look-look.ensures.first, c.look-look.ensures.records, c.walk-walk.ensures.0, c.walk-walk.ensures.1)
      (farther_step c.args.side _ c.args.minutes c.loop-w.w.first c.loop-w.best c.loop-w.invariant.best);
}

pub returns : goal.returns
returns c =
    let xs = c.args.self.now.pairs.now in
    let e : c.loop-w.w.first ≡ length xs = omega arith in
    best_given _ c.args.self.now.walkable c.args.side c.args.minutes c.loop-w.best (rw (length_pairs_in c.args.self.now.by xs, ← e) c.loop-w.invariant.best)
