use Prim.Native.Nat.{ℕ, ◌*◌, ◌≤◌, ◌<◌}
use native.Mathlib.Omega.{arith}
use mathlib.Core.List.{List}
use lib.ListN.{length}
use Rattle.cycle.specs.declared.windows.Measure.{Measure}
use Rattle.cycle.specs.declared.windows.Window.{Window}
use Rattle.cycle.specs.Cycles.{round}
use Rattle.cycle.specs.Windows.{pairs_in, run_in, Spans}
use Rattle.cycle.proofs.Chunks.{length_pairs_in}
use Rattle.cycle.proofs.MovingWindow.{spans_with, next_place}
use Rattle.cycle.proofs.windows.Cycle.filled.Goals as goal

-- the report at the window's end is one of the first two rounds
inside : (by : Measure) (xs : List (List ℕ)) (v : ℕ) {w : Window} → w.first < length xs → v ≤ round (pairs_in by xs) → Spans (run_in by xs) v w → w.minutes < v → w.past < 2 * length xs
inside by xs v first short spans less = let n = length_pairs_in by xs in omega (arith, next_place (pairs_in by xs) v (omega arith) short spans less)

pub report-requires : goal.report-requires
report-requires c = inside _ _ _ (omega arith) c.requires.1 c.loop-w.invariant.1 c.loop-w-test.true

pub with-w-requires : goal.with-w-requires
with-w-requires c =
    let xs = c.args.self.now.pairs.now in
    let i = inside _ xs _ (omega arith) c.requires.1 c.loop-w.invariant.1 c.loop-w-test.true in
    (omega (arith, c.args.self.now.walkable.few, length_pairs_in c.args.self.now.by xs), omega arith, omega arith)

pub loop-w-preserved : goal.loop-w-preserved
loop-w-preserved c = rw c.with-w.ensures (c.loop-w.invariant.0, spans_with _ _ c.loop-w.invariant.1 c.report.ensures (omega arith, omega arith) (omega arith))
