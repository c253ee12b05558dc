-- `available_closed`: the least is what ends with a period, and with the front that it leaves out it is whole periods. The figure is at
-- most 1,000 records a minute, so that it fits (`available_most`).
use Prim.Native.Nat.{◌-◌, ◌*◌}
use native.Mathlib.Omega.{arith}
use native.Mathlib.Nat.{mod-lt, le_of_lt}
use mathlib.Core.Path.{◌≡◌, sym}
use Rattle.plan.proofs.Proper.{numbers}
use Rattle.families.specs.Families.{available}
use Rattle.families.proofs.Figures.{first_held, front_fits, available_closed, available_most}
use Rattle.families.proofs.available_supply.Goals as goal

pub nonzero_rem-minutes : goal.nonzero_rem-minutes
nonzero_rem-minutes c = (numbers _ c.args.plan.is_proper).period.0

pub overflow_sub-period : goal.overflow_sub-period
overflow_sub-period c = le_of_lt (mod-lt _ (numbers _ c.args.plan.is_proper).period.0)

pub nonzero_div-minutes : goal.nonzero_div-minutes
nonzero_div-minutes c = (numbers _ c.args.plan.is_proper).period.0

pub overflow_sub-result : goal.overflow_sub-result
overflow_sub-result c =
    let front = first_held c.args.plan.plan _ c.first_minutes-front.ensures in
    rw (c.from.ensures, c.from-2.ensures, front, c.from-minutes.ensures) (front_fits _ c.args.plan.is_proper _)

pub overflow_cast-result : goal.overflow_cast-result
overflow_cast-result c =
    let front = first_held c.args.plan.plan _ c.first_minutes-front.ensures in
    let is : c.from.result * c.from-2.result - c.first_minutes-front.result.records ≡ available c.args.plan.plan c.args.p =
    rw (c.from.ensures, c.from-2.ensures, front, c.from-minutes.ensures) (sym (available_closed _ c.args.plan.is_proper _)) in
    let most = available_most c.args.plan.plan c.args.plan.is_proper c.args.p in
    record { fits = omega arith }

pub returns : goal.returns
returns c =
    let front = first_held c.args.plan.plan _ c.first_minutes-front.ensures in
    rw (c.from.ensures, c.from-2.ensures, front, c.from-minutes.ensures) (sym (available_closed _ c.args.plan.is_proper _))
