-- `check_late` meets its contract: the number of a cycle with lateness is the number against what its planned minutes must meet
-- (proofs/Planned.antt).
use mathlib.Core.Path.{refl, sym, ap, ◌∙◌}
use Rattle.std.proofs.lemmas.Result.{err_from_is_err_and}
use Rattle.cycle.specs.Check.{cycle_number}
use Rattle.cycle.proofs.Chunks.{pairs_in_chunks}
use Rattle.cycle.proofs.Planned.{against_judges, against_number, refused_number}
use Rattle.cycle.proofs.check_late.Goals as goal

pub returns-in_err-planned : goal.returns-in_err-planned
returns-in_err-planned c =
    let p = err_from_is_err_and c.from_residual.result c.from_residual.ensures.1 in
    rw (p.1, p.2) (refused_number _ _ _ _ (sym c.in_err-planned.ensures))

pub check_pairs-requires : goal.check_pairs-requires
check_pairs-requires c = against_judges _ _ _ (sym c.in_ok-planned.ensures)

pub returns : goal.returns
returns c = c.check_pairs.ensures ∙ ap (cycle_number _) (rw c.as_chunks.ensures.front (pairs_in_chunks _ _ refl)) ∙ against_number _ _ _ _ (sym c.in_ok-planned.ensures)
