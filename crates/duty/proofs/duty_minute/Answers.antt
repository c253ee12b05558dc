-- `duty_minute` meets its contract: the tests come in the order of the answer's definition. No minute has more before it than its number.
use native.Mathlib.Omega.{arith}
use mathlib.Core.Path.{sym, ◌∙◌}
use Rattle.std.proofs.lemmas.Result.{err_from_is_err_and}
use Rattle.duty.specs.Weeks.{IsTable}
use Rattle.duty.specs.Minutes.{duty_of}
use Rattle.duty.proofs.OpenMinutes.{before_most}
use Rattle.duty.proofs.Tables.{refusal_given, refuses_closed, gives_duty}
use Rattle.duty.proofs.duty_minute.Goals as goal

pub returns-in_err-week : goal.returns-in_err-week
unfolding duty_of
returns-in_err-week c =
    let p = err_from_is_err_and c.from_residual.result c.from_residual.ensures.1 in
    rw (p.1, p.2) (refusal_given _ _ _ c.in_err-week.ensures.answer)

pub returns-then-not-is_open : goal.returns-then-not-is_open
returns-then-not-is_open c =
    let same = c.in_ok-week.ensures.same in
    let valid : IsTable c.in_ok-week.week.table = rw same (sym c.in_ok-week.ensures.answer) in
    rw (← same, ← c.from-m.ensures) (sym (refuses_closed _ valid _ (sym c.is_open.ensures ∙ c.if-not-is_open.true)))

pub overflow_cast-result : goal.overflow_cast-result
overflow_cast-result c = record { fits = omega (arith, before_most c.in_ok-week.week.table c.from-m.result) }

pub returns : goal.returns
returns c =
    let same = c.in_ok-week.ensures.same in
    let valid : IsTable c.in_ok-week.week.table = rw same (sym c.in_ok-week.ensures.answer) in
    rw (← same, ← c.from-m.ensures, c.before-2.ensures) (sym (gives_duty _ valid _ (sym c.is_open.ensures ∙ c.if-not-is_open.false)))
