use native.Mathlib.Omega.{arith}
use mathlib.Core.Path.{◌∙◌}
use borrow.Author.Rules.{rules}
use Rattle.meter.proofs.Steps.{walk_starts, walk_goes_on, walk_stops, walk_ends}
use Rattle.meter.proofs.Meter.aged.Goals as goal

pub loop-k-init : goal.loop-k-init
loop-k-init c = walk_starts _ _

pub returns-then-not-is_aged-clause-count : goal.returns-then-not-is_aged-clause-count
returns-then-not-is_aged-clause-count c =
    walk_stops _ _ _ _ c.loop-k.invariant _ _ c.later-t.ensures (c.from-at.ensures ∙ c.place.ensures.place) (omega arith) c.if-not-is_aged.ensures

pub loop-k-preserved : goal.loop-k-preserved
loop-k-preserved c =
    rw c.from-records.ensures
    (walk_goes_on _ _ _ _ c.loop-k.invariant _ _ c.later-t.ensures (c.from-at.ensures ∙ c.place.ensures.place) (omega arith) (search rules) c.if-not-is_aged.ensures)

pub returns-clause-count : goal.returns-clause-count
returns-clause-count c = walk_ends _ _ _ _ c.loop-k.invariant (omega arith) (omega arith)
