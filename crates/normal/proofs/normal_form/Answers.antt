-- Where the count has passed, the period is the length of the normal form, and the search finds where that begins. By the answer goes what is stored.
use native.Mathlib.Omega.{arith}
use mathlib.Core.Path.{◌≡◌, sym, ◌∙◌}
use lib.ListN.{length}
use Rattle.std.specs.Prelude.{Ok, Err}
use Rattle.normal.specs.Normal.{period}
use Rattle.normal.specs.Answers.{normalised}
use Rattle.normal.proofs.Periods.{period_short}
use Rattle.normal.proofs.Turns.{start_inside}
use Rattle.normal.proofs.Normalised.{Counted, counted_in, bad_count, few_places, enough_places, form_stored, refused_kept}
use Rattle.normal.proofs.normal_form.Goals.{After-period-n, Then-not-count_in, Then-places-n, After-places-1}
use Rattle.normal.proofs.normal_form.Goals as goal

-- the count has passed
cycle : (c : After-period-n) → Counted c.args.pairs.now
cycle c = counted_in _ (sym c.if-not-count_in.ensures)

gets_12 : (c : Then-not-count_in) → normalised (length c.args.places.now) c.args.pairs.now ≡ Err 12
gets_12 c = bad_count _ _ (sym c.if-not-count_in.ensures)

gets_20 : (c : Then-places-n) → normalised (length c.args.places.now) c.args.pairs.now ≡ Err 20
gets_20 c =
    few_places (length c.args.places.now) c.args.pairs.now (cycle (goal.at.returns-then-places-n-clause-answer c).After-period-n) (omega (arith, c.period-n.ensures))

gets_count : (c : After-places-1) → normalised (length c.args.places.now) c.args.pairs.now ≡ Ok (period c.args.pairs.now)
gets_count c =
    enough_places (length c.args.places.now) c.args.pairs.now (cycle (goal.at.returns-clause-answer c).After-period-n) (omega (arith, c.period-n.ensures))

pub returns-then-not-count_in-clause-answer : goal.returns-then-not-count_in-clause-answer
returns-then-not-count_in-clause-answer c = sym (gets_12 c)

pub returns-then-not-count_in-clause-places : goal.returns-then-not-count_in-clause-places
returns-then-not-count_in-clause-places c = sym (refused_kept _ _ 12 (gets_12 c))

pub returns-then-places-n-clause-answer : goal.returns-then-places-n-clause-answer
returns-then-places-n-clause-answer c = sym (gets_20 c)

pub returns-then-places-n-clause-places : goal.returns-then-places-n-clause-places
returns-then-places-n-clause-places c = sym (refused_kept _ _ 20 (gets_20 c))

pub store-requires : goal.store-requires
store-requires c =
    let k = cycle (goal.at.store-requires c).After-period-n in
    let s = start_inside _ k.some in
    let p = period_short _ k.some in
    (omega (arith, c.least_start.ensures), omega (arith, c.period-n.ensures), omega arith)

pub overflow_cast-result : goal.overflow_cast-result
overflow_cast-result c =
    let k = cycle (goal.at.overflow_cast-result c).After-period-n in
    record { fits = omega (arith, c.period-n.ensures, period_short _ k.some, k.few) }

pub returns-clause-answer : goal.returns-clause-answer
returns-clause-answer c = rw c.period-n.ensures (sym (gets_count c))

pub returns-clause-places : goal.returns-clause-places
returns-clause-places c = rw (c.least_start.ensures, c.period-n.ensures) at c.store.ensures ∙ sym (form_stored _ _ _ (gets_count c))
