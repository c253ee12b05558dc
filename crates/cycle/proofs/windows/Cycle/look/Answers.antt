-- Once the window is filled, it holds what the minutes left over from its first report hold, and with the whole rounds what all the minutes walked over
-- do: so the stretch is seen. The window's first report is then let go; its end stays, for no stretch ends before the one that started a
-- report earlier.
use native.Mathlib.Omega.{arith}
use mathlib.Core.List.{List}
use Rattle.pairs.specs.declared.Pair.{Pair}
use Rattle.cycle.specs.Windows.{pairs_in}
use Rattle.cycle.proofs.MovingWindow.{Filled, filled, spans_without, first_inside, seen_here}
use Rattle.cycle.proofs.windows.Cycle.look.Goals.{After-filled-w}
use Rattle.cycle.proofs.windows.Cycle.look.Goals as goal

abbrev ps : After-filled-w → List Pair
ps c = pairs_in c.args.self.now.by c.args.self.now.pairs.now

held : (c : After-filled-w) → Filled (ps c) c.filled-w.result
held c = filled _ _ c.args.self.now.walkable _ c.requires.1 (omega (arith, c.filled-w.ensures.0, c.requires.0)) c.filled-w.ensures.1 c.filled-w.ensures.2

pub overflow_add-walk : goal.overflow_add-walk
overflow_add-walk c =
    let k = held (goal.at.overflow_add-walk c).After-filled-w in
    record { fits = omega arith }

pub seen-requires : goal.seen-requires
seen-requires c =
    let at = (goal.at.seen-requires c).After-filled-w in
    let k = first_inside _ _ at.filled-w.ensures.2 c.report-x.ensures (held at).there in
    omega arith

pub without-requires : goal.without-requires
without-requires c =
    let at = (goal.at.without-requires c).After-filled-w in
    let k = first_inside _ _ at.filled-w.ensures.2 c.report-x.ensures (held at).there in
    ((held at).start_fits, k.0, k.1)

pub returns : goal.returns
returns c =
    let at = (goal.at.returns c).After-filled-w in
    let seen = seen_here _ c.args.self.now.walkable c.args.walk.side c.args.walk.minutes c.requires.1 c.filled-w.ensures.2 c.filled-w.ensures.1 c.report-x.ensures in
    record {
      records = rw (c.seen.ensures, seen, c.filled-w.ensures.0);
      first = rw (c.without.ensures, c.filled-w.ensures.0);
      spans = rw c.without.ensures (spans_without _ _ c.filled-w.ensures.2 c.report-x.ensures (held at).there);
    }
