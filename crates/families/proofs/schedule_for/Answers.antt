-- 3, 4, 24, 25 and 5 by `started`; without a schedule 6; else its number of reports is small, and it is the definition's.
use native.Mathlib.Omega.{arith}
use mathlib.Core.Path.{sym, ◌∙◌}
use Rattle.std.proofs.lemmas.Result.{err_from_is_err_and}
use Rattle.spec.proofs.KnownRates.{known}
use Rattle.families.specs.Families.{scheduled, schedule_for}
use Rattle.families.proofs.Plans.{in_range, planned_is}
use Rattle.families.proofs.schedule_for.Goals as goal

pub returns-in_err-rates : goal.returns-in_err-rates
unfolding schedule_for
returns-in_err-rates c =
    let p = err_from_is_err_and c.from_residual.result c.from_residual.ensures.1 in
    rw (p.1, p.2, ← c.in_err-rates.ensures)

pub returns-then-not-has_schedule : goal.returns-then-not-has_schedule
unfolding schedule_for scheduled
returns-then-not-has_schedule c = rw (← c.in_ok-rates.ensures, ← c.has_schedule.ensures, c.if-not-has_schedule.true)

pub overflow_cast-k : goal.overflow_cast-k
overflow_cast-k c =
    let n = known _ _ (sym c.in_ok-rates.ensures) in
    record { fits = omega (arith, (in_range _ _ n _ _ (sym c.has_schedule.ensures ∙ c.if-not-has_schedule.false)).few) }

pub returns : goal.returns
unfolding schedule_for scheduled
returns c =
    let there = sym c.has_schedule.ensures ∙ c.if-not-has_schedule.false in
    let n = known _ _ (sym c.in_ok-rates.ensures) in
    rw (c.schedule.ensures, planned_is _ _ n _ _ there, ← c.in_ok-rates.ensures, ← c.has_schedule.ensures, c.if-not-has_schedule.false)
