-- What the margins say of a cycle: they are given exactly where the check gets as far as its stretches; they are those of the endless run, since the
-- pairs can be walked over then; and a rule is kept exactly where its margin is within the limit, so that the check gives 15 and 16 by them.
use Prim.Native.Nat.{ℕ}
use native.Mathlib.Omega.{arith}
use mathlib.Core.Path.{◌≡◌, refl, sym, ◌∙◌, ap}
use mathlib.Core.Logic.{◌↔◌, ⊎_elim}
use mathlib.Core.Bool.{Bool, true, false, and-false}
use mathlib.Core.List.{List}
use lib.ListN.{length}
use Rattle.std.specs.Prelude.{Option, None, Some, Ok, Err}
use Rattle.std.proofs.lemmas.Bool.{true_from_ne_false}
use Rattle.numbers.proofs.Cases.{lt_cases}
use Rattle.numbers.proofs.Tests.{not_both}
use Rattle.spec.specs.declared.Rate.{Rate}
use Rattle.spec.specs.declared.Spec.{Spec}
use Rattle.spec.specs.Limits.{spec_number, IsAccepted, if_none}
use Rattle.spec.proofs.GoingOn.{none_or, goes_on, stops, number_few}
use Rattle.pairs.specs.declared.Pair.{Pair}
use Rattle.pairs.specs.Pairs.{that_fit}
use Rattle.pairs.proofs.Counts.{fit_cases}
use Rattle.schedule.specs.Schedules.{stretch}
use Rattle.cycle.specs.declared.margins.Margins.{Margins}
use Rattle.cycle.specs.declared.stretches.Side.{Side}
use Rattle.cycle.specs.declared.stretches.Side.TheVariants.{Fullest, Thinnest}
use Rattle.cycle.specs.Cycles.{cycle_run}
use Rattle.cycle.specs.Check.{supply_kept, demand_met, first_refusal, shape_number, cycle_number, check_number}
use Rattle.cycle.specs.Margins.{begins, margin, margin_of, margins, margins_of, Within, Beyond, IsMarginOf, Past, IsMost, IsLeast, AboveB, BelowL}
use Rattle.cycle.specs.Windows.{SomeMinutes, Walkable}
use Rattle.cycle.proofs.Runs.{supply_right, demand_right}
use Rattle.cycle.proofs.Starts.{supply_absent, demand_absent}
use Rattle.cycle.proofs.Steps.{gets_15, gets_16, walkable, shape_told, shape_most, shape_after, shaped}
use Rattle.cycle.proofs.Numbers.{gets_refused, gets_cycle}
use Rattle.cycle.proofs.Planned.{accepted_judges}
use Rattle.cycle.proofs.CyclesPassed.{cycle_said}
use Rattle.cycle.proofs.FarthestOut.{within_trans, margin_is}

pub thin_walked : (rate : Option Rate) → SomeMinutes Thinnest rate
thin_walked None = tt
thin_walked (Some x) = omega arith

-- by the numbers that come before
module _ (spec : Spec) (ps : List Pair) where
  module _ (accepted : IsAccepted spec) where
    pub margins_after : margins_of spec ps ≡ if_none (shape_number spec ps) (Ok (margins spec ps)) Err
    unfolding margins_of
    margins_after = goes_on (spec_number spec) _ Err accepted

    margins_told : ¬ (shape_number spec ps ≡ 0) → margins_of spec ps ≡ Err (shape_number spec ps)
    margins_told h = margins_after ∙ stops (shape_number spec ps) _ Err h

    pub margins_given : shape_number spec ps ≡ 0 → margins_of spec ps ≡ Ok (margins spec ps)
    margins_given h = margins_after ∙ goes_on (shape_number spec ps) _ Err h

  not_accepted : ¬ IsAccepted spec → margins_of spec ps ≡ Err (spec_number spec)
  unfolding margins_of
  not_accepted h = stops (spec_number spec) _ Err h

  -- a cycle of which they are given
  record Given (m : Margins) : Type 0 where
    accepted : IsAccepted spec
    shape : shape_number spec ps ≡ 0
    ok : Walkable ps
    same : margins spec ps ≡ m

  given : (m : Margins) → margins_of spec ps ≡ Ok m → Given m
  given m e =
      ⊎_elim
      (λ accepted.
      ⊎_elim
      (λ shape.
      let t = shaped spec ps shape in
      record {
        accepted = accepted;
        shape = shape;
        ok = walkable spec ps (accepted_judges spec accepted) t.0 t.1;
        same = let h = sym (margins_given accepted shape) ∙ e in cc;
      })
      (λ told. let h = sym (margins_told accepted told) ∙ e in cc)
      (none_or (shape_number spec ps)))
      (λ refused. let h = sym (not_accepted refused) ∙ e in cc)
      (none_or (spec_number spec))

  -- refused they are with the numbers of the check that are not of its stretches
  pub margins_refused : (n : ℕ) → (margins_of spec ps ≡ Err n) ↔ ((check_number spec ps ≡ n) × ¬ (n ≡ 0) × ¬ (n ≡ 15) × ¬ (n ≡ 16))
  margins_refused n =
      ⊎_elim
      (λ accepted.
      ⊎_elim
      (λ shape. (
        λ e. let h = sym (margins_given accepted shape) ∙ e in cc,
        λ h.
            let number = gets_cycle spec ps accepted in
            absurd (⊎_elim (λ none. h.1 (sym h.0 ∙ number ∙ none)) (λ s. ⊎_elim (λ q. h.2 (omega arith)) (λ q. h.3 (omega arith)) (lt_cases n 16)) (shape_after spec ps shape)),
      ))
      (λ told.
      let number : check_number spec ps ≡ shape_number spec ps = gets_cycle spec ps accepted ∙ shape_told spec ps told in (
        λ e.
            let is : shape_number spec ps ≡ n = let h = sym (margins_told accepted told) ∙ e in cc in
            (number ∙ is, λ z. omega arith, λ z. omega (arith, shape_most spec ps), λ z. omega (arith, shape_most spec ps)),
        λ h. margins_told accepted told ∙ ap Err (sym number ∙ h.0),
      ))
      (none_or (shape_number spec ps)))
      (λ refused.
      let number : spec_number spec ≡ check_number spec ps = gets_refused spec ps refused in (
        λ e.
            let is : spec_number spec ≡ n = let h = sym (not_accepted refused) ∙ e in cc in (
              sym number ∙ is,
              λ z. refused (is ∙ z),
              λ z. ⊎_elim (λ few. omega (arith, few)) (λ few. omega arith) (number_few spec refused),
              λ z. ⊎_elim (λ few. omega (arith, few)) (λ few. omega arith) (number_few spec refused),
            ),
        λ h. not_accepted refused ∙ ap Err (number ∙ h.0),
      ))
      (none_or (spec_number spec))

-- a margin is of the endless run
of_rate : (side : Side) (ps : List Pair) → Walkable ps → (rate : Option Rate) → IsMarginOf side (cycle_run ps) (length ps) rate (margin_of side rate ps)
unfolding margin_of
of_rate side ps ok None = tt
of_rate side ps ok (Some x) = margin_is ps ok side x.minutes

-- within the limit or beyond it
beyond_or : (side : Side) (records limit : ℕ) (test : Bool) → (test ≡ true → Within side records limit) → (Within side records limit → test ≡ true)
    → (test ≡ false) ↔ Beyond side records limit
beyond_or Fullest records limit true h k = (λ e. absurd (not_both true refl e), λ b. absurd (omega (arith, h refl)))
beyond_or Fullest records limit false h k = (λ e. ⊎_elim (λ b. b) (λ w. absurd (not_both false (k w) refl)) (lt_cases limit records), λ b. refl)
beyond_or Thinnest records limit true h k = (λ e. absurd (not_both true refl e), λ b. absurd (omega (arith, h refl)))
beyond_or Thinnest records limit false h k = (λ e. ⊎_elim (λ b. b) (λ w. absurd (not_both false (k w) refl)) (lt_cases records limit), λ b. refl)

module _ (ps : List Pair) (ok : Walkable ps) where
  -- a rule is broken exactly where its margin is past the limit
  past_iff : (side : Side) (x : Rate) (test : Bool) → (test ≡ true) ↔ ((a : ℕ) → Within side (stretch (cycle_run ps) a x.minutes) x.records)
      → (test ≡ false) ↔ Beyond side (margin side x.minutes ps).records x.records
  past_iff side x test right =
      let is = margin_is ps ok side x.minutes in
      beyond_or side _ x.records test
      (λ e. rw is.holds at (right.0 e (begins side (cycle_run ps) (margin side x.minutes ps).report)))
      (λ w. right.1 (λ a. within_trans side _ _ _ (is.farthest a) w))

  full_iff : (rate : Option Rate) → (supply_kept rate ps ≡ false) ↔ Past Fullest rate (margin_of Fullest rate ps)
  unfolding margin_of
  full_iff None = (λ e. not_both _ (supply_absent ps) e, λ h. absurd h)
  full_iff (Some x) = past_iff Fullest x _ (supply_right ps ok.some ok.later (Some x))

  thin_iff : (rate : Option Rate) → (demand_met rate ps ≡ false) ↔ Past Thinnest rate (margin_of Thinnest rate ps)
  unfolding margin_of
  thin_iff None = (λ e. not_both _ (demand_absent ps) e, λ h. absurd h)
  thin_iff (Some x) = past_iff Thinnest x _ (demand_right ps ok.some ok.later (Some x))

module _ (spec : Spec) (ps : List Pair) (m : Margins) (e : margins_of spec ps ≡ Ok m) where
  pub margins_right : IsMost (cycle_run ps) (length ps) spec.supply m.fullest × IsLeast (cycle_run ps) (length ps) spec.demand m.thinnest
  unfolding margins
  margins_right = let g = given spec ps m e in rw (← g.same) (of_rate Fullest ps g.ok spec.supply, of_rate Thinnest ps g.ok spec.demand)

  pub margin_15 : (check_number spec ps ≡ 15) ↔ AboveB spec.supply m.fullest
  unfolding margins cycle_number
  margin_15 =
      let g = given spec ps m e in
      let t = shaped spec ps g.shape in
      let number = gets_cycle spec ps g.accepted in
      rw (← g.same) (
        λ n. (full_iff ps g.ok spec.supply).0 ((cycle_said spec ps).is_15 (sym number ∙ n)).2,
        λ past. number ∙ sym (gets_15 _ _ _ _ _ t.0 t.1 t.2 ((full_iff ps g.ok spec.supply).1 past)),
      )

  pub margin_16 : (check_number spec ps ≡ 16) ↔ (¬ AboveB spec.supply m.fullest × BelowL spec.demand m.thinnest)
  unfolding margins cycle_number
  margin_16 =
      let g = given spec ps m e in
      let t = shaped spec ps g.shape in
      let number = gets_cycle spec ps g.accepted in
      rw (← g.same) (
        λ n.
            let s = (cycle_said spec ps).is_16 (sym number ∙ n) in
            (λ past. not_both _ s.2 ((full_iff ps g.ok spec.supply).1 past), (thin_iff ps g.ok spec.demand).0 s.3),
        λ h.
            let kept = true_from_ne_false _ (λ f. h.0 ((full_iff ps g.ok spec.supply).0 f)) in
            number ∙ sym (gets_16 _ _ _ _ _ t.0 t.1 t.2 kept ((thin_iff ps g.ok spec.demand).1 h.1)),
      )

-- more than 512 pairs get the number of none
pub fit_margins : (spec : Spec) (ps : List Pair) → margins_of spec (that_fit 512 ps) ≡ margins_of spec ps
unfolding margins_of shape_number first_refusal if_none
fit_margins spec ps = fit_cases 512 ps (λ (qs : List Pair). margins_of spec qs ≡ margins_of spec ps) (λ e. refl) (λ e. rw (e, and-false))
