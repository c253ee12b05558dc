-- Inside the loop both starts and the agreement are below the period, which is at most the count. Where it ends, no start is left beside the
-- first, or the agreement spans a whole turn, which it never does.
use native.Mathlib.Omega.{arith}
use Rattle.normal.proofs.Periods.{period_short}
use Rattle.normal.proofs.LeastTurn.{searches_step, searches_end}
use Rattle.normal.proofs.Cycle.least_start.Goals as goal

pub overflow_add-s : goal.overflow_add-s
overflow_add-s c = record { fits = omega (arith, c.loop-s.invariant.apart, period_short _ c.args.self.now.some, c.args.self.now.few) }

pub key-requires : goal.key-requires
key-requires c = omega (arith, c.loop-s.invariant.apart, period_short _ c.args.self.now.some)

pub overflow_add-s-in-loop-s : goal.overflow_add-s-in-loop-s
overflow_add-s-in-loop-s c = record { fits = omega (arith, period_short _ c.args.self.now.some, c.args.self.now.few) }

pub key-requires-in-loop-s : goal.key-requires-in-loop-s
key-requires-in-loop-s c = omega (arith, period_short _ c.args.self.now.some)

pub step-s-requires : goal.step-s-requires
step-s-requires c =
    let a = c.loop-s.invariant.apart in
    let p = period_short _ c.args.self.now.some in
    let f = c.args.self.now.few in
    (omega arith, omega arith, omega arith)

pub loop-s-preserved : goal.loop-s-preserved
loop-s-preserved c =
    rw c.step-s.ensures
    (searches_step _ c.args.self.now.some _ c.loop-s.invariant _ _ c.key.ensures c.key-in-loop-s.ensures (omega arith))

pub returns-else-s-n : goal.returns-else-s-n
returns-else-s-n c = searches_end _ c.args.self.now.some _ c.loop-s.invariant (λ h k. omega arith)

pub returns-after-loop-s : goal.returns-after-loop-s
returns-after-loop-s c = searches_end _ c.args.self.now.some _ c.loop-s.invariant (λ h k. omega arith)
