-- `planned_spec` meets its contract: the numbers of an accepted specification leave room for J.
use native.Mathlib.Omega.{arith}
use Rattle.std.proofs.iter.Serving.{serving}
use Rattle.spec.proofs.Facts.{facts}
use Rattle.lateness.proofs.PlannedSpec.{minutes_fit, bound_fits, apart_limits}
use Rattle.lateness.proofs.planned_spec.Goals as goal

pub overflow_add-result : goal.overflow_add-result
overflow_add-result c = let f = facts _ c.args.accepted.accepted in record { fits = omega (arith, f.gaps, f.gap_high) }

pub joined_end-requires : goal.joined_end-requires
joined_end-requires c = (facts _ c.args.accepted.accepted).gap_high

pub map-requires : goal.map-requires
map-requires c = λ x e. let h = minutes_fit _ x e (facts _ c.args.accepted.accepted).supply c.requires in grind (arith, serving)

pub map-requires-3 : goal.map-requires-3
map-requires-3 c = λ x e. let h = bound_fits _ x e (rw c.second_apart.ensures (apart_limits c.args.accepted.spec.smax _ (facts _ c.args.accepted.accepted).second)) c.requires in grind (arith, serving)

pub second_apart-requires : goal.second_apart-requires
second_apart-requires c = (facts _ c.args.accepted.accepted).gap_high
