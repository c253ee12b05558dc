-- The invariant: what bisection knows between two turns (proofs/Bisection.antt) of the box plan.
use Rattle.spec.specs.Refusals.{numbered}
use Rattle.boxplan.specs.BoxPlan.{box_plan}
use Rattle.tolerance.proofs.Bisection.{Known, width}
use Rattle.tolerance.proofs.tolerant_plan.Given as goal

abbrev pub invariant-loop-step : goal.invariant-loop-step
invariant-loop-step l = Known (box_plan l.spec) (width l.step-index) (numbered l.best)
