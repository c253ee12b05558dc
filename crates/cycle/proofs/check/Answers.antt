-- `check` meets its contract: an accepted specification can be judged by, and the number is then the cycle's.
use mathlib.Core.Path.{refl, sym, ap, ◌∙◌}
use Rattle.std.proofs.lemmas.Result.{err_from_is_err_and}
use Rattle.spec.proofs.Refusals.{handed_number}
use Rattle.cycle.specs.Check.{cycle_number, check_number}
use Rattle.cycle.proofs.Numbers.{gets_cycle}
use Rattle.cycle.proofs.Chunks.{pairs_in_chunks}
use Rattle.cycle.proofs.Planned.{accepted_judges}
use Rattle.cycle.proofs.check.Goals as goal

pub returns-in_err-check : goal.returns-in_err-check
unfolding check_number
returns-in_err-check c =
    let p = err_from_is_err_and c.from_residual.result c.from_residual.ensures.1 in
    handed_number _ _ _ _ c.in_err-check.ensures (rw p.2 at p.1)

pub check_pairs-requires : goal.check_pairs-requires
check_pairs-requires c = accepted_judges _ (sym c.in_ok-check.ensures)

pub returns : goal.returns
returns c = c.check_pairs.ensures ∙ ap (cycle_number _) (rw c.as_chunks.ensures.front (pairs_in_chunks _ _ refl)) ∙ sym (gets_cycle _ _ (sym c.in_ok-check.ensures))
