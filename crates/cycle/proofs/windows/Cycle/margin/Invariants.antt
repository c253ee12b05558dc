-- The invariant: as in `starts_pass`, and `best` is the farthest out of the stretches of the reports before `first`.
use Prim.Native.Nat.{◌-◌, ◌≤◌}
use lib.ListN.{length}
use Rattle.cycle.specs.Windows.{run_in, Spans, FarthestOf}
use Rattle.cycle.proofs.windows.Cycle.margin.Given as goal

abbrev pub invariant-loop-w : goal.invariant-loop-w
invariant-loop-w l = record {
  inside : l.w.first ≤ length l.self.pairs.now;
  spans : Spans (run_in l.self.by l.self.pairs.now) l.walk.parts.rest l.w;
  best : FarthestOf l.side (run_in l.self.by l.self.pairs.now) l.minutes l.w.first l.best;
}

abbrev pub decreases-loop-w : goal.decreases-loop-w
decreases-loop-w l = length l.self.pairs.now - l.w.first
