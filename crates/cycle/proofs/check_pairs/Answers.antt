-- 12, 13 or 14 is told as it is. Where there is none the pairs can be walked over, since a gap that is allowed is no 0, and the stretches give the
-- rest of the number.
use mathlib.Core.Path.{sym, ◌∙◌}
use Rattle.std.proofs.lemmas.Result.{err_from_is_err_and}
use Rattle.spec.proofs.Refusals.{refused_some}
use Rattle.cycle.specs.Check.{cycle_number}
use Rattle.cycle.proofs.Steps.{shaped, shape_told, gets_15, gets_16, gets_0, walkable}
use Rattle.cycle.proofs.check_pairs.Goals as goal

pub returns-in_err-check_shape : goal.returns-in_err-check_shape
returns-in_err-check_shape c =
    let p = err_from_is_err_and c.from_residual.result c.from_residual.ensures.1 in
    rw (p.1, p.2) (c.in_err-check_shape.ensures ∙ sym (shape_told _ _ (refused_some _ _ c.in_err-check_shape.ensures)))

pub invariant_of-cycle : goal.invariant_of-cycle
invariant_of-cycle c = let t = shaped _ _ (sym c.in_ok-check_shape.ensures) in record { walkable = walkable _ _ c.requires t.0 t.1 }

pub returns-then-not-keeps_supply : goal.returns-then-not-keeps_supply
unfolding cycle_number
returns-then-not-keeps_supply c = let t = shaped _ _ (sym c.in_ok-check_shape.ensures) in gets_15 _ _ _ _ _ t.0 t.1 t.2 (sym c.if-not-keeps_supply.ensures)

pub returns-then-not-meets_demand : goal.returns-then-not-meets_demand
unfolding cycle_number
returns-then-not-meets_demand c =
    let t = shaped _ _ (sym c.in_ok-check_shape.ensures) in gets_16 _ _ _ _ _ t.0 t.1 t.2 (sym c.if-not-keeps_supply.ensures) (sym c.if-not-meets_demand.ensures)

pub returns : goal.returns
unfolding cycle_number
returns c =
    let t = shaped _ _ (sym c.in_ok-check_shape.ensures) in gets_0 _ _ _ _ _ t.0 t.1 t.2 (sym c.if-not-keeps_supply.ensures) (sym c.if-not-meets_demand.ensures)
