use native.Mathlib.Omega.{arith}
use Rattle.duty.proofs.Days.{week_minute}
use Rattle.duty.proofs.Tables.{day_right_lem}
use Rattle.duty.proofs.Week.minute.Goals as goal

pub returns-then-left-here : goal.returns-then-left-here
returns-then-left-here c =
    let week = c.args.self.now in
    let k = c.loop-k.k in
    let here = rw c.day-day.ensures at c.minute.ensures in
    week_minute week.table k (omega arith) (day_right_lem week.table week.right k (omega arith)) _ _ _ c.loop-k.invariant here
