-- The margin that is found is the margin: of the stretches at the reports of one round it is the farthest out, with the lowest number. Stretches anywhere
-- go no farther (proofs/Starts.antt), and those at report i hold what those at report i mod c do; so it is a margin of the endless run, and of
-- these there is one only.
use Prim.Native.Nat.{ℕ, zero, suc, ◌+◌, ◌*◌, ◌/◌, ◌%◌, ◌≤◌, ◌<◌}
use native.Mathlib.Omega.{arith}
use native.Mathlib.Nat.{mod-lt, mod-le}
use mathlib.Core.Path.{◌≡◌, refl, sym, ◌∙◌, ap}
use mathlib.Core.Logic.{◌⊎◌, inl, inr, ⊎_elim}
use mathlib.Core.Bool.{Bool, true, false, cond}
use mathlib.Core.List.{List}
use lib.Dec.{eqb}
use lib.ListN.{length}
use borrow.Author.Count.{below_more}
use borrow.Author.Tests.{eq-eqb, eqb-true, leb-false}
use Rattle.std.specs.Prelude.{Option, None, Some}
use Rattle.numbers.proofs.Cases.{lt_cases}
use Rattle.numbers.specs.Numbers.{first}
use Rattle.numbers.proofs.Firsts.{first_right}
use Rattle.numbers.proofs.Tests.{not_both}
use Rattle.pairs.specs.declared.Pair.{Pair}
use Rattle.schedule.specs.Schedules.{Schedule, minute, stretch}
use Rattle.schedule.proofs.Repeats.{minute_whole, stretch_rounds, stretch_first}
use Rattle.cycle.specs.declared.margins.Margin.{Margin}
use Rattle.cycle.specs.declared.stretches.Side.{Side}
use Rattle.cycle.specs.declared.stretches.Side.TheVariants.{Fullest, Thinnest}
use Rattle.cycle.specs.Cycles.{cycle_run, round}
use Rattle.cycle.specs.Margins.{farther_of, farthest_of, begins, margin, Within, IsMargin}
use Rattle.cycle.specs.Windows.{Walkable, within, farther, Farthest, FarthestOf}
use Rattle.cycle.proofs.Runs.{gap_again, size_again, round_some}
use Rattle.cycle.proofs.Starts.{within_iff, all_within}

-- the order of either side
within_same : (side : Side) (a : ℕ) → Within side a a
within_same Fullest a = omega arith
within_same Thinnest a = omega arith

one_limit : (side : Side) (a b : ℕ) → Within side a b → Within side b a → a ≡ b
one_limit Fullest a b h k = omega arith
one_limit Thinnest a b h k = omega arith

-- what is within a limit is within what goes past it
within_past : (side : Side) (a limit past : ℕ) → within side past limit ≡ false → Within side a limit → Within side a past
within_past Fullest a limit past e h = omega (arith, leb-false past limit e)
within_past Thinnest a limit past e h = omega (arith, leb-false limit past e)

-- the greatest, or the least, is one of them, and all are within it
farther_is : (side : Side) (a b : ℕ) → Within side a (farther_of side a b) × Within side b (farther_of side a b) × ((farther_of side a b ≡ a) ⊎ (farther_of side a b ≡ b))
farther_is Fullest a b = (omega arith, omega arith, ⊎_elim (λ h. inr (omega arith)) (λ h. inl (omega arith)) (lt_cases a b))
farther_is Thinnest a b = (omega arith, omega arith, ⊎_elim (λ h. inl (omega arith)) (λ h. inr (omega arith)) (lt_cases a b))

pub within_trans : (side : Side) (a b c : ℕ) → Within side a b → Within side b c → Within side a c
within_trans Fullest a b c h k = omega arith
within_trans Thinnest a b c h k = omega arith

module _ (side : Side) (f : ℕ → ℕ) where
  record FarthestIs (n x : ℕ) : Type 0 where
    all_in : (i : ℕ) → i < n → Within side (f i) x
    one_of : (i : ℕ) × (f i ≡ x)

  farthest_is : (n : ℕ) → FarthestIs n (farthest_of side f n)
  unfolding farthest_of
  farthest_is zero = record { all_in = λ i h. absurd (omega arith); one_of = (0, refl) }
  farthest_is (suc n) =
      let ih = farthest_is n in
      let k = farther_is side (farthest_of side f n) (f n) in
      record {
        all_in = λ i h. below_more (λ i. Within side (f i) (farther_of side (farthest_of side f n) (f n))) n (λ i h. within_trans side _ _ _ (ih.all_in i h) k.0) k.1 i (omega arith);
        one_of = ⊎_elim (λ e. (ih.one_of.0, ih.one_of.1 ∙ sym e)) (λ e. (n, sym e)) k.2;
      }

-- one report more
module _ (side : Side) (s : Schedule) (minutes k : ℕ) where
  abbrev here : ℕ
  here = stretch s (begins side s k) minutes

  abbrev new : Margin
  new = record { records = here; report = k }

  pub farther_step : (best : Option Margin) → FarthestOf side s minutes k best → FarthestOf side s minutes (k + 1) (farther side best new)
  farther_step None none = record {
    holds = refl;
    passed = omega arith;
    farthest = below_more (λ i. Within side (stretch s (begins side s i) minutes) here) k (λ i q. absurd (omega arith)) (within_same side here);
    lowest_one = λ i q e. omega arith;
  }
  farther_step (Some m) best = pick (within side here m.records) refl
    where
      pick : (t : Bool) → within side here m.records ≡ t → FarthestOf side s minutes (k + 1) (cond t (Some m) (Some new))
      pick true t = record {
        holds = best.holds;
        passed = omega (arith, best.passed);
        farthest = below_more (λ i. Within side (stretch s (begins side s i) minutes) m.records) k best.farthest ((within_iff side here m.records).0 t);
        lowest_one = below_more (λ i. stretch s (begins side s i) minutes ≡ m.records → m.report ≤ i) k best.lowest_one (λ e. omega (arith, best.passed));
      }
      pick false t = record {
        holds = refl;
        passed = omega arith;
        farthest = below_more (λ i. Within side (stretch s (begins side s i) minutes) here) k (λ i q. within_past side _ m.records here t (best.farthest i q)) (within_same side here);
        lowest_one = below_more (λ i. stretch s (begins side s i) minutes ≡ here → k ≤ i) k
            (λ i q e. absurd (not_both _ ((within_iff side here m.records).1 (rw e at (best.farthest i q))) t))
            (λ e. omega arith);
      }

-- so a walk over some reports has one
walked_over : (side : Side) (s : Schedule) (minutes k : ℕ) → (best : Option Margin) × FarthestOf side s minutes k best
walked_over side s minutes zero = (None, refl)
walked_over side s minutes (suc k) =
    let w = walked_over side s minutes k in
    let more : k + 1 ≡ suc k = omega arith in
    (farther side w.0 (new side s minutes k), rw more at (farther_step side s minutes k w.0 w.1))

module _ (ps : List Pair) (ok : Walkable ps) (side : Side) (minutes : ℕ) where
  abbrev s : Schedule
  s = cycle_run ps

  abbrev at_report : ℕ → ℕ
  at_report i = stretch s (begins side s i) minutes

  -- a report of a later round has the stretch of its pair's
  begins_turned : (side : Side) (i : ℕ) → begins side s i ≡ begins side s (i % length ps) + i / length ps * minute s (length ps)
  begins_turned Fullest i = omega (arith, minute_whole s (length ps) (gap_again ps) i)
  begins_turned Thinnest i = omega (arith, minute_whole s (length ps) (gap_again ps) i)

  turned : (i : ℕ) → at_report i ≡ at_report (i % length ps)
  turned i = rw (begins_turned side i) (stretch_rounds s ok.later (length ps) (size_again ps) (gap_again ps) (begins side s (i % length ps)) (i / length ps) minutes)

  is_margin : (m : Margin) → Farthest side s minutes (length ps) m → IsMargin side s (length ps) minutes m
  is_margin m best = record {
    farthest = all_within ps ok side minutes m.records best.farthest;
    holds = best.holds;
    lowest_one = λ i e. omega (arith, best.lowest_one (i % length ps) (mod-lt i ok.some) (sym (turned i) ∙ e), mod-le i (length ps));
    inside = best.passed;
  }

  -- the most, or the least, of the starts of one round is what it holds
  records_are : (m : Margin) → IsMargin side s (length ps) minutes m → farthest_of side (λ a. stretch s a minutes) (round ps) ≡ m.records
  unfolding round
  records_are m is =
      let o = farthest_is side (λ a. stretch s a minutes) (round ps) in
      let a = begins side s m.report in
      let first_round = stretch_first s ok.later (length ps) (size_again ps) (gap_again ps) a minutes in
      one_limit side _ m.records
      (rw o.one_of.1 at (is.farthest o.one_of.0))
      (rw (sym first_round ∙ is.holds) at (o.all_in (a % round ps) (mod-lt a (round_some ps ok.some ok.later))))

  -- and the first that holds so much is its report
  report_is : (m : Margin) → IsMargin side s (length ps) minutes m → (records : ℕ) → records ≡ m.records → first (λ i. eqb (at_report i) records) (length ps) 0 ≡ m.report
  report_is m is records e =
      let here : eqb (at_report m.report) records ≡ true = eq-eqb _ _ (is.holds ∙ sym e) in
      let r = first_right (λ i. eqb (at_report i) records) (length ps) 0 m.report (omega arith) (omega (arith, is.inside)) here in
      omega (arith, r.least m.report (omega arith) here, is.lowest_one _ (eqb-true _ _ r.passes ∙ e))

  margin_given : (m : Margin) → Farthest side s minutes (length ps) m → m ≡ margin side minutes ps
  unfolding margin
  margin_given m best =
      let is = is_margin m best in
      let records = records_are m is in
      let report = report_is m is _ records in
      λ k. record { records = sym records k; report = sym report k }

  pub best_given : (best : Option Margin) → FarthestOf side s minutes (length ps) best → best ≡ Some (margin side minutes ps)
  best_given None none = absurd (omega (arith, ok.some))
  best_given (Some m) best = ap (λ (m : Margin). Some m) (margin_given m best)

  pub margin_is : IsMargin side s (length ps) minutes (margin side minutes ps)
  margin_is =
      let w = walked_over side s minutes (length ps) in
      some w.0 w.1
    where
      some : (best : Option Margin) → FarthestOf side s minutes (length ps) best → IsMargin side s (length ps) minutes (margin side minutes ps)
      some None none = absurd (omega (arith, ok.some))
      some (Some m) best = rw (margin_given m best) at (is_margin m best)
