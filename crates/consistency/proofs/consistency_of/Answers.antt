-- 3, 4, 24 and 25 by `check_one_range`; the first condition that fails by `conditions_of`, whose divisors are no 0 in an accepted
-- specification.
use Rattle.consistency.proofs.consistency_of.Goals as goal
use mathlib.Core.Path.{◌∙◌, sym}
use Rattle.std.proofs.lemmas.Result.{err_from_is_err_and}
use Rattle.spec.proofs.GoingOn.{goes_on, one_range_iff}
use Rattle.consistency.specs.Consistency.{consistency_of}
use Rattle.consistency.proofs.HandedOn.{handed_told}

pub returns-in_err-check_one_range : goal.returns-in_err-check_one_range
unfolding consistency_of
returns-in_err-check_one_range c =
    let p = err_from_is_err_and c.from_residual.result c.from_residual.ensures.1 in
    handed_told _ _ _ _ c.in_err-check_one_range.ensures (rw p.2 at p.1)

pub invariant_of-conditions_of : goal.invariant_of-conditions_of
invariant_of-conditions_of c = record { accepted = ((one_range_iff _).0 (sym c.in_ok-check_one_range.ensures)).0 }

pub returns : goal.returns
unfolding consistency_of
returns c = c.conditions_of.ensures ∙ sym (goes_on _ _ _ (sym c.in_ok-check_one_range.ensures))
