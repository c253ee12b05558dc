-- `Week::days_before` meets its contract: the open minutes of the days passed are counted, and each day that follows adds those of its
-- windows.
use Prim.Native.Nat.{◌*◌}
use mathlib.Core.Path.{◌≡◌}
use Rattle.duty.specs.Weeks.{open_before}
use Rattle.duty.proofs.Week.days_before.Given as goal

abbrev pub invariant-loop-k : goal.invariant-loop-k
invariant-loop-k l = l.total ≡ open_before l.self.table (1440 * l.k)
