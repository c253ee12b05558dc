-- The invariant: the window starts at report `first`, none of its reports is past the minutes left over, and the stretch of every report before
-- `first` was within the limit.
use Prim.Native.Nat.{ℕ, ◌-◌, ◌≤◌, ◌<◌}
use mathlib.Core.Path.{◌≡◌}
use mathlib.Core.Bool.{true}
use lib.ListN.{length}
use Rattle.schedule.specs.Schedules.{stretch}
use Rattle.cycle.specs.Margins.{begins}
use Rattle.cycle.specs.Windows.{run_in, Spans, within}
use Rattle.cycle.proofs.windows.Cycle.starts_pass.Given as goal

abbrev pub invariant-loop-w : goal.invariant-loop-w
invariant-loop-w l = record {
  inside : l.w.first ≤ length l.self.pairs.now;
  spans : Spans (run_in l.self.by l.self.pairs.now) l.walk.parts.rest l.w;
  passed : (i : ℕ) → i < l.w.first → within l.side (stretch (run_in l.self.by l.self.pairs.now) (begins l.side (run_in l.self.by l.self.pairs.now) i) l.rate.minutes) l.rate.records ≡ true;
}

abbrev pub decreases-loop-w : goal.decreases-loop-w
decreases-loop-w l = length l.self.pairs.now - l.w.first
