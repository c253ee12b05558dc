-- What passes for some lateness passes for every smaller one (`check_found_below`), so that each turn keeps what is known; after the last the largest so far is the tolerance.
use mathlib.Core.Path.{◌∙◌, ap}
use native.Mathlib.Omega.{arith}
use Rattle.std.proofs.Common.{rules}
use Rattle.pairs.specs.Pairs.{pairs_of}
use Rattle.tolerance.specs.Tolerance.{lateness_of, tolerance}
use Rattle.tolerance.proofs.Bisection.{known_first, known_few, known_next, known_end}
use Rattle.tolerance.proofs.Tolerances.{check_found_below, check_told, lateness_told}
use Rattle.tolerance.proofs.tolerance.Goals as goal

pub loop-step-init : goal.loop-step-init
loop-step-init c = known_first _ (check_found_below c.args.spec (pairs_of c.args.words.now)) 26

pub next-lateness-requires-clause-late : goal.next-lateness-requires-clause-late
next-lateness-requires-clause-late c = known_few _ (check_found_below c.args.spec (pairs_of c.args.words.now)) _ c.loop-step.best c.loop-step.invariant

pub loop-step-preserved : goal.loop-step-preserved
loop-step-preserved c =
    known_next _ (check_found_below c.args.spec (pairs_of c.args.words.now)) c.loop-step.step-index (omega arith) _ _ _ _ c.loop-step.invariant c.next-lateness.ensures
    (check_told c.args.spec (pairs_of c.args.words.now) _ _ c.check_late.ensures) c.better-best.ensures

pub returns : goal.returns
unfolding tolerance
returns c =
    lateness_told c.loop-step.best c.map.result (search rules)
    ∙ ap lateness_of (known_end _ (check_found_below c.args.spec (pairs_of c.args.words.now)) c.loop-step.step-index (omega arith) (omega arith) _ c.loop-step.invariant)
