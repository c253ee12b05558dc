-- The invariant: the window starts at report `first`, none of its reports is past the minutes left over, and `best` is the shortest row of the
-- starts before report `first`. Once the window is filled, its reports and the whole rounds are the fewest from this start that go over the
-- bound. The window's first report is then let go, as in the check.
use Prim.Native.Nat.{◌-◌, ◌≤◌}
use lib.ListN.{length}
use Rattle.cycle.specs.Windows.{run_in, Spans}
use Rattle.cycle.specs.Rows.{row_shows, BestBefore}
use Rattle.cycle.proofs.windows.Cycle.shortest.Given as goal

abbrev pub invariant-loop-w : goal.invariant-loop-w
invariant-loop-w l = record {
  inside : l.w.first ≤ length l.self.pairs.now;
  spans : Spans (run_in l.self.by l.self.pairs.now) l.parts.rest l.w;
  best : BestBefore (row_shows l.self.by (run_in l.self.by l.self.pairs.now) l.most l.below) l.w.first l.best;
}

abbrev pub decreases-loop-w : goal.decreases-loop-w
decreases-loop-w l = length l.self.pairs.now - l.w.first
