-- A gap that no list of sizes fits, no reports for sure in P minutes, or no number of pairs that will do: no plan.
use mathlib.Core.Path.{sym, ◌∙◌}
use Rattle.boxplan.proofs.Search.{counted_none, no_pairs, some_pairs}
use Rattle.boxplan.proofs.Needed.{not_allowed}
use Rattle.boxplan.proofs.plan_at.Goals as goal

pub returns-then-not-fits_at : goal.returns-then-not-fits_at
returns-then-not-fits_at c = not_allowed c.args.spec _ (sym c.fits_at.ensures ∙ c.if-not-fits_at.true)

pub returns-in_err-m : goal.returns-in_err-m
returns-in_err-m c = c.from_residual.ensures ∙ counted_none _ _ _ (rw c.count_at.ensures at c.new.ensures) c.in_err-m.was

pub returns-in_err-count : goal.returns-in_err-count
returns-in_err-count c =
    c.from_residual-in_err-count.ensures
    ∙ no_pairs _ _ _ (rw c.count_at.ensures at c.new.ensures) c.in_ok-m.m c.in_ok-m.was c.most_at.result c.most_at.ensures _ c.fewest_pairs.ensures.number c.in_err-count.was

pub returns : goal.returns
returns c =
    rw (c.from.ensures, c.from-2.ensures, c.from-3.ensures, c.get.ensures.value)
    (some_pairs _ _ _ (rw c.count_at.ensures at c.new.ensures) c.in_ok-m.m c.in_ok-m.was c.most_at.result c.most_at.ensures _ c.fewest_pairs.ensures.number c.fewest_pairs.ensures.most c.in_ok-count.count c.fewest_records.result c.in_ok-count.was c.fewest_records.ensures)
