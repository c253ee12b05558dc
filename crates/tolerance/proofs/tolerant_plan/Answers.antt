-- There is a box plan for less lateness where there is one for more (`box_found_below`), so that each turn keeps what is known; after the last the
-- largest so far is that of the most tolerant plan.
use native.Mathlib.Omega.{arith}
use Rattle.tolerance.specs.Tolerance.{tolerant_plan}
use Rattle.tolerance.proofs.Bisection.{known_first, known_few, known_next, known_end}
use Rattle.tolerance.proofs.Tolerances.{box_found_below}
use Rattle.tolerance.proofs.tolerant_plan.Goals as goal

pub loop-step-init : goal.loop-step-init
loop-step-init c = known_first _ (box_found_below c.args.spec) 26

pub next-lateness-requires-clause-late : goal.next-lateness-requires-clause-late
next-lateness-requires-clause-late c = known_few _ (box_found_below c.args.spec) _ c.loop-step.best c.loop-step.invariant

pub loop-step-preserved : goal.loop-step-preserved
loop-step-preserved c =
    known_next _ (box_found_below c.args.spec) c.loop-step.step-index (omega arith) _ _ _ _ c.loop-step.invariant c.next-lateness.ensures
    c.box_plan.ensures c.better-best.ensures

pub returns : goal.returns
unfolding tolerant_plan
returns c = known_end _ (box_found_below c.args.spec) c.loop-step.step-index (omega arith) (omega arith) _ c.loop-step.invariant
