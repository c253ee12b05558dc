-- The first number of pairs that will do ends the search; one that won't is not the fewest.
use mathlib.Core.Path.{sym, ◌∙◌}
use native.Mathlib.Omega.{arith}
use Rattle.numbers.proofs.Firsts.{first_found, first_above}
use Rattle.boxplan.proofs.fewest_pairs.Goals as goal

pub returns-then-pairs_fit-clause-number : goal.returns-then-pairs_fit-clause-number
returns-then-pairs_fit-clause-number c =
    sym (first_found _ 512 1 c.loop-q.q (omega arith) (omega arith) c.loop-q.invariant (sym c.pairs_fit.ensures ∙ c.if-pairs_fit.true))

pub loop-q-preserved : goal.loop-q-preserved
loop-q-preserved c =
    first_above _ 512 1 c.loop-q.q (omega arith) (omega arith) c.loop-q.invariant (sym c.pairs_fit.ensures ∙ c.if-pairs_fit.false)
