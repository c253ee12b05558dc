-- The refusals in their order: 3, 4, 24, 25 and 5 by `started`, 7 with the condition; then what is taken is tested, and by `some_count`
-- there is a schedule to take. Each return rewrites the definition by what the calls before it gave.
use mathlib.Core.Path.{sym}
use Rattle.std.proofs.lemmas.Result.{err_from_is_err_and}
use Rattle.spec.proofs.KnownRates.{known}
use Rattle.feasibility.proofs.Counts.{some_count}
use Rattle.feasibility.specs.Test.{test_taken, test_consistent, test_of}
use Rattle.feasibility.proofs.test.Goals as goal

pub returns-in_err-rates : goal.returns-in_err-rates
unfolding test_of
returns-in_err-rates c =
    let p = err_from_is_err_and c.from_residual.result c.from_residual.ensures.1 in
    rw (p.1, p.2, ← c.in_err-rates.ensures)

pub returns-in_err-consistency_of : goal.returns-in_err-consistency_of
unfolding test_of test_consistent
returns-in_err-consistency_of c =
    let p = err_from_is_err_and c.from_residual-in_err-consistency_of.result c.from_residual-in_err-consistency_of.ensures.1 in
    rw (p.1, p.2, ← c.in_ok-rates.ensures, ← c.in_err-consistency_of.ensures)

pub best_schedule-best-requires : goal.best_schedule-best-requires
best_schedule-best-requires c =
    let begun = sym c.in_ok-rates.ensures in
    some_count _ _ (known _ _ begun) (sym c.in_ok-consistency_of.ensures) _

pub returns-then-not-figure_passes : goal.returns-then-not-figure_passes
unfolding test_of test_consistent test_taken
returns-then-not-figure_passes c =
    rw (← c.in_ok-rates.ensures, ← c.in_ok-consistency_of.ensures, ← c.family_of.ensures, ← c.best_schedule-best.ensures, ← c.figure_passes.ensures, c.if-not-figure_passes.true)

pub returns : goal.returns
unfolding test_of test_consistent test_taken
returns c =
    rw (← c.in_ok-rates.ensures, ← c.in_ok-consistency_of.ensures, ← c.family_of.ensures, ← c.best_schedule-best.ensures, ← c.figure_passes.ensures, c.if-not-figure_passes.false)
