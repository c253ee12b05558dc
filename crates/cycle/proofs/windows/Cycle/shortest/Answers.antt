use Prim.Native.Nat.{◌+◌}
use native.Mathlib.Omega.{arith}
use mathlib.Core.List.{List}
use mathlib.Core.Path.{◌≡◌}
use lib.ListN.{length}
use Rattle.pairs.specs.declared.Pair.{Pair}
use Rattle.cycle.specs.Windows.{pairs_in, run_in, IsParts}
use Rattle.cycle.specs.Rows.{left_out, row_shows, BestBefore}
use Rattle.cycle.proofs.Chunks.{length_pairs_in}
use Rattle.cycle.proofs.MovingWindow.{Filled, filled, spans_without, first_inside}
use Rattle.cycle.proofs.Runs.{gap_again, size_again}
use Rattle.cycle.proofs.Rows.{left_inside, start_shows, start_shows_none, rows_again, best_found}
use Rattle.cycle.proofs.windows.Cycle.shortest.Goals.{After-filled-w, After-without-w, then-parts-w, else-parts-w}
use Rattle.cycle.proofs.windows.Cycle.shortest.Goals as goal

abbrev ps : After-filled-w → List Pair
ps c = pairs_in c.args.self.now.by c.args.self.now.pairs.now

held : (c : After-filled-w) → Filled (ps c) c.filled-w.result
held c = filled _ _ c.args.self.now.walkable _ c.parts-parts.ensures (omega (arith, c.filled-w.ensures.0, c.loop-w-test.true)) c.filled-w.ensures.1 c.filled-w.ensures.2

pub report-x-requires : goal.report-x-requires
report-x-requires c =
    let at = (goal.at.report-x-requires c).After-filled-w in
    rw (c.left_out.ensures, ← length_pairs_in c.args.self.now.by c.args.self.now.pairs.now)
    (left_inside (ps at) c.args.self.now.walkable _ c.parts-parts.ensures c.filled-w.ensures.2 c.filled-w.ensures.1 c.args.self.now.by (held at).first_round)

pub overflow_add-parts : goal.overflow_add-parts
overflow_add-parts c =
    let k = held (goal.at.overflow_add-parts c).After-filled-w in
    record { fits = omega arith }

pub row-requires : goal.row-requires
row-requires c = (c.parts-parts.ensures.rounds_fit, c.filled-w.ensures.2.forward, (held (goal.at.row-requires c).After-filled-w).end_fits)

pub without-w-requires : goal.without-w-requires
without-w-requires c =
    let at = (goal.at.without-w-requires c).After-filled-w in
    let k = first_inside _ _ at.filled-w.ensures.2 c.report.ensures (held at).there in
    ((held at).start_fits, k.0, k.1)

-- the best row once this start is judged
judged : (c : After-without-w) → BestBefore (row_shows c.args.self.now.by (run_in c.args.self.now.by c.args.self.now.pairs.now) c.args.most c.args.below) (c.filled-w.result.first + 1) c.if-parts-w.best
judged c =
    let xs = c.args.self.now.pairs.now in
    let by = c.args.self.now.by in
    let so_far : BestBefore (row_shows by (run_in by xs) c.args.most c.args.below) c.filled-w.result.first c.loop-w.best = rw c.filled-w.ensures.0 c.loop-w.invariant.best in
    let left : c.report-x.result.size ≡ (run_in by xs).size (left_out by c.filled-w.result) = rw c.left_out.ensures at c.report-x.ensures.size in
    let parts : IsParts (pairs_in by xs) (c.args.most + 1) c.parts-parts.result = rw c.from.ensures at c.parts-parts.ensures in
    let start = start_shows (pairs_in by xs) c.args.self.now.walkable c.args.most parts c.filled-w.ensures.2 c.filled-w.ensures.1 by left c.args.below c.loop-w.best so_far in
    let none = start_shows_none (pairs_in by xs) c.args.self.now.walkable c.args.most parts c.filled-w.ensures.2 c.filled-w.ensures.1 by left c.args.below c.loop-w.best so_far in
    elim c.if-parts-w.branch [
      | then-parts-w w ↦ rw (w.best-is, w.shorter-best.ensures, w.row.ensures) (start (length xs) (length_pairs_in by xs) (omega (arith, w.if-parts-w.true)))
      | else-parts-w w ↦ rw w.best-is (none (omega (arith, w.if-parts-w.false)))
    ]

pub loop-w-preserved : goal.loop-w-preserved
loop-w-preserved c =
    let at = goal.at.loop-w-preserved c in
    rw c.without-w.ensures (record {
      inside = omega arith;
      spans = spans_without _ _ c.filled-w.ensures.2 c.report.ensures (held at.After-filled-w).there;
      best = judged at.After-without-w;
    })

pub returns : goal.returns
returns c =
    let by = c.args.self.now.by in
    let xs = c.args.self.now.pairs.now in
    let e : c.loop-w.w.first ≡ length xs = omega arith in
    let ps = pairs_in by xs in
    let count = length_pairs_in by xs in
    rw (← count)
    (best_found _ (length ps) c.args.self.now.walkable.some (rows_again by (run_in by xs) (length ps) (gap_again ps) (size_again ps) c.args.most c.args.below) c.loop-w.best (rw (count, ← e) c.loop-w.invariant.best))
