-- The refusal of the specification, then that of the count, the gaps and the sizes, and where there is none of them the margins of both rates.
use mathlib.Core.Path.{◌≡◌, refl, sym, ◌∙◌}
use Rattle.std.specs.Prelude.{Ok}
use Rattle.std.proofs.lemmas.Result.{err_from_is_err_and}
use Rattle.spec.proofs.Refusals.{handed_on}
use Rattle.pairs.specs.Pairs.{pairs_of}
use Rattle.cycle.specs.declared.windows.Measure.TheVariants.{Minutes}
use Rattle.cycle.specs.Margins.{margins, margins_of}
use Rattle.cycle.specs.Windows.{pairs_in}
use Rattle.cycle.proofs.Chunks.{pairs_in_chunks}
use Rattle.cycle.proofs.Steps.{shaped, walkable}
use Rattle.cycle.proofs.Planned.{accepted_judges}
use Rattle.cycle.proofs.CycleMargins.{margins_after, margins_given, thin_walked}
use Rattle.cycle.proofs.margins.margins_of.Goals as goal

pub returns-in_err-check : goal.returns-in_err-check
unfolding margins_of
returns-in_err-check c =
    let p = err_from_is_err_and c.from_residual.result c.from_residual.ensures.1 in
    handed_on _ _ _ _ c.in_err-check.ensures (rw p.2 at p.1)

pub returns-in_err-check_shape : goal.returns-in_err-check_shape
returns-in_err-check_shape c =
    let p = err_from_is_err_and c.from_residual-in_err-check_shape.result c.from_residual-in_err-check_shape.ensures.1 in
    let chunks : pairs_in Minutes c.as_chunks.result.0.now ≡ pairs_of c.args.words.now = rw c.as_chunks.ensures.front (pairs_in_chunks _ _ refl) in
    let told = handed_on _ _ _ (Ok (margins c.args.spec (pairs_of c.args.words.now))) (rw chunks at c.in_err-check_shape.ensures) (rw p.2 at p.1) in
    told ∙ sym (margins_after _ _ (sym c.in_ok-check.ensures))

pub invariant_of-cycle : goal.invariant_of-cycle
invariant_of-cycle c =
    let t = shaped _ _ (sym c.in_ok-check_shape.ensures) in record { walkable = walkable _ _ (accepted_judges _ (sym c.in_ok-check.ensures)) t.0 t.1 }

pub margin_of-requires : goal.margin_of-requires
margin_of-requires c = (accepted_judges _ (sym c.in_ok-check.ensures)).supply

pub margin_of-requires-2 : goal.margin_of-requires-2
margin_of-requires-2 c = thin_walked c.args.spec.demand

pub returns : goal.returns
unfolding margins
returns c =
    let chunks : pairs_in Minutes c.as_chunks.result.0.now ≡ pairs_of c.args.words.now = rw c.as_chunks.ensures.front (pairs_in_chunks _ _ refl) in
    let given = margins_given c.args.spec (pairs_of c.args.words.now) (sym c.in_ok-check.ensures) (rw chunks at (sym c.in_ok-check_shape.ensures)) in
    rw (c.margin_of.ensures, c.margin_of-2.ensures, chunks) (sym given)
