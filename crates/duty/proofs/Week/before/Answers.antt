-- `Week::before` meets its contract: whole weeks, whole days and a part of a day. Together they are at most m, so that every sum fits.
use native.Mathlib.Omega.{arith}
use mathlib.Core.Path.{sym}
use Rattle.duty.proofs.OpenMinutes.{before_most}
use Rattle.duty.proofs.Tables.{before_parts}
use Rattle.duty.proofs.Week.before.Goals as goal

pub overflow_mul-result : goal.overflow_mul-result
overflow_mul-result c =
    let week = c.args.self.now in
    let parts = before_parts week.table week.right week.minutes c.args.m week.counted in
    record { fits = omega (arith, before_most week.table c.args.m) }

pub returns : goal.returns
returns c =
    let week = c.args.self.now in
    rw (c.days_before.ensures, c.before-2.ensures, c.day.ensures) (sym (before_parts week.table week.right week.minutes c.args.m week.counted))

-- the whole sum, and with it each part
pub overflow_add-result : goal.overflow_add-result
overflow_add-result c =
    let sum = returns c in
    record { fits = omega (arith, before_most c.args.self.now.table c.args.m) }

pub overflow_add-result-2 : goal.overflow_add-result-2
overflow_add-result-2 c =
    let sum = returns c in
    record { fits = omega (arith, before_most c.args.self.now.table c.args.m) }
