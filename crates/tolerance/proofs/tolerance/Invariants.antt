-- The invariant: what bisection knows between two turns (proofs/Bisection.antt) of the check with lateness.
use Rattle.spec.specs.Refusals.{numbered}
use Rattle.pairs.specs.Pairs.{pairs_of}
use Rattle.tolerance.specs.Tolerance.{passing}
use Rattle.tolerance.proofs.Bisection.{Known, width}
use Rattle.tolerance.proofs.tolerance.Given as goal

abbrev pub invariant-loop-step : goal.invariant-loop-step
invariant-loop-step l = Known (passing l.spec (pairs_of l.words)) (width l.step-index) (numbered l.best)
