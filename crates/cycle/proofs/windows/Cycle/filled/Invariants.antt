-- The invariant: the window holds its reports, and its first report is the one that it started with. While it has not reached v minutes,
-- the report at its end is before the end of those minutes, so it may be taken in; v is at most a round, so that report is one of the
-- first two rounds. The measure is the minutes that are left: no gap is 0.
use Prim.Native.Nat.{◌-◌}
use mathlib.Core.Path.{◌≡◌}
use Rattle.cycle.specs.Windows.{run_in, Spans}
use Rattle.cycle.proofs.windows.Cycle.filled.Given as goal

abbrev pub invariant-loop-w : goal.invariant-loop-w
invariant-loop-w l = (l.w.first ≡ l.initial.w.first) × Spans (run_in l.self.by l.self.pairs.now) l.v l.w

abbrev pub decreases-loop-w : goal.decreases-loop-w
decreases-loop-w l = l.v - l.w.minutes
