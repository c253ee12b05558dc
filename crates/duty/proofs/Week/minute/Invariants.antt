-- `Week::minute` meets its contract: n is what is left, and the open minutes of the days passed.
use Prim.Native.Nat.{◌+◌, ◌*◌}
use mathlib.Core.Path.{◌≡◌}
use Rattle.duty.specs.Weeks.{open_before}
use Rattle.duty.proofs.Week.minute.Given as goal

abbrev pub invariant-loop-k : goal.invariant-loop-k
invariant-loop-k l = l.left + open_before l.self.table (1440 * l.k) ≡ l.n
