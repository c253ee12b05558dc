-- `aged` meets its contract. The invariant: the k reports passed are out of the window, and `records` is their sum.
use Rattle.meter.proofs.Steps.{Walked}
use Rattle.meter.proofs.Meter.aged.Given as goal

abbrev pub invariant-loop-k : goal.invariant-loop-k
invariant-loop-k l = Walked l.self l.minute l.k l.records
