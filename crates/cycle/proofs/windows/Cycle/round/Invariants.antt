-- The invariant: the minutes and the records of the reports passed, of which each has at most 65,535.
use Prim.Native.Nat.{◌*◌, ◌≤◌}
use mathlib.Core.Path.{◌≡◌}
use Rattle.schedule.specs.Schedules.{sum, minute}
use Rattle.cycle.specs.Windows.{run_in}
use Rattle.cycle.proofs.windows.Cycle.round.Given as goal

abbrev pub invariant-loop-pair : goal.invariant-loop-pair
invariant-loop-pair l = record {
  minutes : l.minutes ≡ minute (run_in l.self.by l.self.pairs.now) l.pair-index;
  records : l.records ≡ sum (run_in l.self.by l.self.pairs.now).size l.pair-index;
  minutes_fit : l.minutes ≤ 65535 * l.pair-index;
  records_fit : l.records ≤ 65535 * l.pair-index;
}
