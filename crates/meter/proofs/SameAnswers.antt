-- The meter's answers are the plain machine's. Both judge by the same four tests: a meter that stands for the list knows what the R
-- minutes hold, and with no supply rate its window of 0 minutes holds nothing. So the numbers are the same, and the meter after an
-- offer stands for the list after it.
use Prim.Native.Nat.{ℕ, ◌+◌, ◌-◌, ◌≤◌}
use native.Mathlib.Omega.{arith}
use native.Mathlib.Nat.{add_comm}
use mathlib.Core.Path.{◌≡◌, refl, sym, ◌∙◌, ap, subst}
use mathlib.Core.Logic.{⊎_elim}
use mathlib.Core.Bool.{Bool, true, false, cond, not, and-false, and-eq-true_iff}
use mathlib.Core.List.{List, [], ◌∷◌}
use lib.Dec.{leb, ltb, eqb}
use lib.ListN.{length-replicate}
use borrow.Author.Tests.{leb-false, le-ltb, lt-leb, eqb-true, ne_eqb, not-false}
use Rattle.std.specs.Prelude.{Option, None, Some}
use Rattle.spec.specs.declared.Rate.{Rate}
use Rattle.spec.specs.declared.Spec.{Spec}
use Rattle.spec.specs.Limits.{between, rate_limits, IsAccepted, size_allowed}
use Rattle.spec.proofs.Facts.{leb_iff, facts, size_allowed_iff}
use Rattle.schedule.specs.Schedules.{sum}
use Rattle.schedule.proofs.Sums.{sum_const}
use Rattle.numbers.proofs.Cases.{lt_cases}
use Rattle.meter.specs.declared.Meter.{Meter}
use Rattle.meter.specs.Plain.{Report, counted_at, records_at, reports_at, ending_with, too_early, over_budget, no_place, first_of, offer_number, after, later, budget_left, offer_answer, plain_answers}
use Rattle.meter.specs.Ring.{window_of, budget_of, fresh, aged, used, ring_number, left_of, Step, accepted_step, refused_step, stepped, meter_answers, meter_after}
use Rattle.meter.proofs.Offers.{Passed, passed, later_offered}
use Rattle.meter.proofs.Rows.{counted_never}
use Rattle.meter.proofs.Held.{Keeps, is_in, is_out, early_same, counting, used_now, held_now}
use Rattle.meter.proofs.Taken.{taken}

-- a window of 0 minutes holds nothing
no_minutes : (worth : Report → ℕ) (t : ℕ) (l : List Report) → counted_at worth (ending_with 0 t) l ≡ 0
no_minutes worth t l =
    counted_never worth (ending_with 0 t) l
    (λ u. ⊎_elim (λ h. rw (lt-leb u t h, and-false)) (λ h. is_out 0 t u (omega arith)) (lt_cases t u))

-- the tests over the numbers of the window and the budget
over_same : (rate : Option Rate) (l : List Report) (x : Report) → x.size ≤ 20000
    → ltb (budget_of rate) (records_at (ending_with (window_of rate) x.minute) l + x.size) ≡ over_budget rate l x
unfolding over_budget
over_same None l x h =
    le-ltb 20000 (records_at (ending_with 0 x.minute) l + x.size) (omega (arith, no_minutes (λ y. y.size) x.minute l))
over_same (Some rate) l x h = refl

full_same : (rate : Option Rate) (l : List Report) (x : Report) → leb 1024 (reports_at (ending_with (window_of rate) x.minute) l) ≡ no_place rate l x
unfolding no_place
full_same None l x = lt-leb 1024 (reports_at (ending_with 0 x.minute) l) (omega (arith, no_minutes (λ y. 1) x.minute l))
full_same (Some rate) l x = refl

-- the budget left, and that after an acceptance
some_minutes : (rate : Rate) → rate_limits (Some rate) ≡ true → 1 ≤ rate.minutes
unfolding rate_limits
some_minutes rate e = let k = simp (and-eq-true_iff, leb_iff) at e in omega arith

abbrev told : Option Rate → ℕ → Option ℕ
told rate records = cond (eqb (window_of rate) 0) None (Some (budget_of rate - records))

left_same : (rate : Option Rate) (l : List Report) (t : ℕ) → rate_limits rate ≡ true
    → told rate (records_at (ending_with (window_of rate) (later l t)) l) ≡ budget_left rate l t
unfolding budget_left
left_same None l t e = refl
left_same (Some rate) l t e = rw (ne_eqb rate.minutes 0 (omega (arith, some_minutes rate e)))

left_more : (rate : Option Rate) (l : List Report) (x : Report) → rate_limits rate ≡ true
    → told rate (records_at (ending_with (window_of rate) x.minute) l + x.size) ≡ budget_left rate (x ∷ l) x.minute
unfolding budget_left later counted_at
left_more None l x e = refl
left_more (Some rate) l x e =
    let r = rate.minutes in
    let now : later (x ∷ l) x.minute ≡ x.minute = omega arith in
    let k = some_minutes rate e in
    rw (ne_eqb r 0 (omega arith), now, is_in r x.minute x.minute (omega arith) (omega arith), add_comm x.size)
    (ap (λ (t : ℕ). Some (rate.records - (records_at (ending_with r t) l + x.size))) (sym now))

-- of tests in a row only those that are come to must agree
first_same : (early outside over over' full full' : Bool) → (early ≡ false → outside ≡ false → over ≡ over') → (early ≡ false → full ≡ full')
    → first_of early outside over full ≡ first_of early outside over' full'
first_same true outside over over' full full' a b = refl
first_same false true over over' full full' a b = refl
first_same false false over over' full full' a b = rw (a refl refl, b refl)

module _ (spec : Spec) (ok : IsAccepted spec) where
  module _ (m : Meter) (l : List Report) (kept : Keeps spec m l) (x : Report) where
    abbrev t : ℕ
    t = x.minute

    held : (worth : Report → ℕ)
        → counted_at worth (ending_with (window_of spec.supply) (later l t)) l ≡ sum (λ i. worth (counting spec m l kept t i)) (m.count - aged m t)
    held worth =
        subst (λ (w : ℕ). counted_at worth (ending_with w (later l t)) l ≡ sum (λ i. worth (counting spec m l kept t i)) (m.count - aged m t)) kept.window
        (held_now spec m l kept t worth)

    held_records : records_at (ending_with (window_of spec.supply) (later l t)) l ≡ used m t
    held_records = omega (arith, held (λ y. y.size), used_now spec m l kept t)

    held_reports : reports_at (ending_with (window_of spec.supply) (later l t)) l ≡ m.count - aged m t
    held_reports = omega (arith, held (λ y. 1), sum_const 1 (m.count - aged m t))

    sized : between m.dmin m.dmax x.size ≡ size_allowed spec x.size
    unfolding size_allowed
    sized = rw (kept.dmin, kept.dmax)

    over : too_early spec l t ≡ false → not (size_allowed spec x.size) ≡ false → ltb m.budget (used m t + x.size) ≡ over_budget spec.supply l x
    over e s =
        let k = (size_allowed_iff spec x.size).0 (not-false _ s) in
        rw (← held_records, later_offered spec l t e, kept.budget) (over_same spec.supply l x (omega (arith, (facts spec ok).size_high)))

    full : too_early spec l t ≡ false → leb 1024 (m.count - aged m t) ≡ no_place spec.supply l x
    full e = rw (← held_reports, later_offered spec l t e) (full_same spec.supply l x)

    number_same : ring_number m t x.size ≡ offer_number spec l x
    unfolding ring_number offer_number
    number_same =
        rw (early_same spec m l t kept.smin kept.latest, sized)
        (first_same (too_early spec l t) (not (size_allowed spec x.size)) _ _ _ _ over full)

    tests : offer_number spec l x ≡ 0 → Passed (too_early spec l t) (not (size_allowed spec x.size)) (over_budget spec.supply l x) (no_place spec.supply l x)
    unfolding offer_number
    tests e = passed _ _ _ _ e

    left_told : (r : ℕ) → left_of m.window m.budget r ≡ told spec.supply r
    unfolding left_of
    left_told r = rw (kept.window, kept.budget)

    -- the answer is the plain machine's, and the meter stands for its list
    abbrev Same : Step → List Report → Type 0
    Same s l' = (s.answer ≡ record { number = offer_number spec l x; left = budget_left spec.supply l' t }) × Keeps spec s.meter l'

    same_refused : Same (refused_step m t x.size) l
    unfolding refused_step
    same_refused = (rw (number_same, left_told (used m t), ← held_records, left_same spec.supply l t (facts spec ok).supply), kept)

    same_accepted : offer_number spec l x ≡ 0 → Same (accepted_step m t x.size) (x ∷ l)
    unfolding accepted_step
    same_accepted e =
        let p = tests e in
        let z = later_offered spec l t p.in_time in
        let few = leb-false 1024 (m.count - aged m t) (full p.in_time ∙ p.has_place) in (
          rw (e, left_told (used m t + x.size), ← held_records, z, left_more spec.supply l x (facts spec ok).supply),
          taken spec m l kept x p.in_time few,
        )

    one_step : Same (stepped m t x.size) (after spec l x)
    unfolding stepped after
    one_step = rw number_same (pick (eqb (offer_number spec l x) 0) refl)
      where
        pick : (b : Bool) → eqb (offer_number spec l x) 0 ≡ b → Same (cond b (accepted_step m t x.size) (refused_step m t x.size)) (cond b (x ∷ l) l)
        pick true e = same_accepted (eqb-true _ _ e)
        pick false e = same_refused

  same : (m : Meter) (l offers : List Report) → Keeps spec m l → meter_answers m offers ≡ plain_answers spec l offers
  unfolding meter_answers plain_answers offer_answer
  same m l [] kept = refl
  same m l (x ∷ xs) kept =
      let s = one_step m l kept x in
      rw (s.0, same (stepped m x.minute x.size).meter (after spec l x) xs s.1)

  holds : (m : Meter) (l offers : List Report) → Keeps spec m l → ((meter_after m offers).count ≤ 1024) × (spec.supply ≡ None → (meter_after m offers).count ≤ 1)
  unfolding meter_after
  holds m l [] kept = (kept.few, λ e. kept.only_last (kept.window ∙ ap window_of e))
  holds m l (x ∷ xs) kept = holds (stepped m x.minute x.size).meter (after spec l x) xs (one_step m l kept x).1

  fresh_keeps : Keeps spec (fresh spec) []
  unfolding sum counted_at
  fresh_keeps = record {
    dmin = refl;
    dmax = refl;
    smin = refl;
    budget = refl;
    window = refl;
    places = (length-replicate {A = ℕ} 1024 0, length-replicate {A = ℕ} 1024 0);
    few = omega arith;
    only_last = λ e. omega arith;
    records = refl;
    gone = [];
    joined = refl;
    past = λ worth u h. refl;
    falls = tt;
    latest = (refl, refl);
  }

pub same_answers : (spec : Spec) (offers : List Report) → IsAccepted spec → meter_answers (fresh spec) offers ≡ plain_answers spec [] offers
same_answers spec offers ok = same spec ok (fresh spec) [] offers (fresh_keeps spec ok)

pub holds_few : (spec : Spec) (offers : List Report) → IsAccepted spec
    → ((meter_after (fresh spec) offers).count ≤ 1024) × (spec.supply ≡ None → (meter_after (fresh spec) offers).count ≤ 1)
holds_few spec offers ok = holds spec ok (fresh spec) [] offers (fresh_keeps spec ok)
