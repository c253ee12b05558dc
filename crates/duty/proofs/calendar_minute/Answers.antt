-- `calendar_minute` meets its contract: whole weeks by a division, and the open minute of one week with as many before it as are left.
use mathlib.Core.Path.{sym, ◌∙◌, ap}
use Rattle.std.specs.Prelude.{Ok}
use Rattle.std.proofs.lemmas.Result.{err_from_is_err_and}
use Rattle.duty.specs.Weeks.{IsTable}
use Rattle.duty.specs.Minutes.{calendar_of}
use Rattle.duty.proofs.Tables.{refusal_given, gives_calendar, calendar_weeks}
use Rattle.duty.proofs.calendar_minute.Goals as goal

pub returns-in_err-week : goal.returns-in_err-week
unfolding calendar_of
returns-in_err-week c =
    let p = err_from_is_err_and c.from_residual.result c.from_residual.ensures.1 in
    rw (p.1, p.2) (refusal_given _ _ _ c.in_err-week.ensures.answer)

pub returns : goal.returns
returns c =
    let week = c.in_ok-week.week in
    let same = c.in_ok-week.ensures.same in
    let valid : IsTable week.table = rw same (sym c.in_ok-week.ensures.answer) in
    rw (← same, ← c.from-d.ensures) (sym (gives_calendar _ valid _ ∙ ap Ok (calendar_weeks _ valid _ _ _ week.counted c.minute.ensures)))
