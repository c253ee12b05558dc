-- The even plan that is given is proper and obeys the rules, no list of sizes that obeys at its gap sends less, at every longer gap each list breaks a
-- rule, and 10 is given exactly where no gap has a list that obeys.
use Prim.Native.Nat.{ℕ, ◌*◌, ◌/◌, ◌≤◌, ◌<◌}
use native.Mathlib.Omega.{arith}
use native.Mathlib.Nat.{le-mul_of_pos_right, mul-le-mul_right, le_trans, mul-mod_right, div-le_self, mul_comm, mul-div_cancel_left}
use mathlib.Core.Path.{◌≡◌, refl, sym, ◌∙◌, subst}
use mathlib.Core.Logic.{◌↔◌, inl, inr, ⊎_elim}
use mathlib.Core.Bool.{Bool, true, false, cond, ◌&&◌, and-eq-true_iff}
use mathlib.Core.List.{List}
use lib.Dec.{eqb}
use borrow.Author.Tests.{eqb-true, eqb-false}
use Rattle.std.specs.Prelude.{Option, None, Some, Result, Ok, Err}
use Rattle.spec.specs.declared.Spec.{Spec}
use Rattle.spec.specs.declared.Rate.{Rate}
use Rattle.spec.specs.Limits.{spec_number, IsAccepted, rate_limits, gap_allowed, gap_top}
use Rattle.spec.specs.File.{read_spec, if_read}
use Rattle.spec.proofs.GoingOn.{goes_on, went_on}
use Rattle.spec.proofs.Facts.{facts, leb_iff, gap_allowed_pos, gap_allowed_top, gap_top_high}
use Rattle.schedule.specs.Rules.{Obeys, Breaks}
use Rattle.schedule.proofs.Sums.{block}
use Rattle.schedule.proofs.Rules.{breaks_not_obeys}
use Rattle.numbers.proofs.Cases.{lt_cases}
use Rattle.plan.specs.declared.Plan.{Plan}
use Rattle.plan.specs.Plans.{proper, run, kind_run}
use Rattle.plan.proofs.Proper.{ProperBounds, proper_kind}
use Rattle.even.specs.Even.{even_gap, even_plan, plan_or10, even_plan_at, even_of, fits, count_at, evenly}
use Rattle.even.specs.Statements.{EvenPlanGiven}
use Rattle.even.proofs.Search.{Largest, largest_right}
use Rattle.even.proofs.BothRanges.{second_fails}
use Rattle.even.proofs.Broken.{rows_least, unfit_breaks}
use Rattle.even.proofs.EvenFits.{sizes_at, fits_holds, fits_obeys}
use Rattle.even.proofs.Cases.{plan_none, plan_some}

-- What is known where a plan is given, or 10 to an accepted specification.
module _ (s : Spec) where
  if_found : (p : Plan) (b : Bool) → eqb (even_gap s) 0 ≡ b → cond {A = Result Plan ℕ} b (Err 10) (Ok (even_plan_at s (even_gap s))) ≡ Ok p
      → (¬ (even_gap s ≡ 0)) × (even_plan_at s (even_gap s) ≡ p)
  if_found p true t e = cc
  if_found p false t e = (eqb-false (even_gap s) 0 t, cc)

  if_refused : (b : Bool) → eqb (even_gap s) 0 ≡ b → cond {A = Result Plan ℕ} b (Err 10) (Ok (even_plan_at s (even_gap s))) ≡ Err 10 → even_gap s ≡ 0
  if_refused true t e = eqb-true (even_gap s) 0 t
  if_refused false t e = cc

found : (s : Spec) (p : Plan) → even_plan s ≡ Ok p → IsAccepted s × (¬ (even_gap s ≡ 0)) × (even_plan_at s (even_gap s) ≡ p)
unfolding even_plan plan_or10
found s p e =
    let on = went_on (spec_number s) (plan_or10 s (even_gap s)) Err (Ok p) (λ some h. cc) e in
    let r = if_found s p _ refl on.1 in
    (on.0, r.0, r.1)

refused : (s : Spec) → IsAccepted s → even_plan s ≡ Err 10 → even_gap s ≡ 0
unfolding even_plan plan_or10
refused s ok e = if_refused s _ refl (sym (goes_on (spec_number s) (plan_or10 s (even_gap s)) Err ok) ∙ e)

-- The gap at which the search ends is allowed and fits, unless it is 0.
gap_search : (s : Spec) → Largest (λ g. gap_allowed s g && fits s g) (gap_top s) (even_gap s)
unfolding even_gap
gap_search s = largest_right (λ g. gap_allowed s g && fits s g) (gap_top s)

gap_right : (s : Spec) → ¬ (even_gap s ≡ 0) → (gap_allowed s (even_gap s) ≡ true) × (fits s (even_gap s) ≡ true)
gap_right s h = (and-eq-true_iff _ _).0 ((gap_search s).passes (omega arith)).0

-- At every longer gap each endless list of sizes breaks a rule: the gaps', where it is not allowed, and else another.
gap_longest : (s : Spec) → IsAccepted s → (g : ℕ) → even_gap s < g → (sizes : ℕ → ℕ) → Breaks s (evenly g sizes)
gap_longest s ok g h sizes = by_cases (gap_allowed s g) refl
  where
    by_cases : (b : Bool) → gap_allowed s g ≡ b → Breaks s (evenly g sizes)
    by_cases false e = inl (0, e)
    by_cases true e = inr (unfit_breaks s g (gap_allowed_pos s g ok e) sizes (second_fails _ _ ((gap_search s).above g h (gap_allowed_top s ok g e)) e))

-- k, π and δ at a gap that is allowed and fits
count_most : (r : Option Rate) (g : ℕ) → rate_limits r ≡ true → count_at r g ≤ 20160
unfolding rate_limits count_at
count_most None g e = omega arith
count_most (Some x) g e = let k = simp (and-eq-true_iff, leb_iff) at e in omega (arith, div-le_self x.minutes g)

module _ (s : Spec) (g : ℕ) (ok : IsAccepted s) (allowed : gap_allowed s g ≡ true) (e : fits s g ≡ true) where
  bounds : ProperBounds (even_plan_at s g)
  unfolding even_plan_at
  bounds =
      let k = facts s ok in
      let pos : 0 < g = gap_allowed_pos s g ok allowed in
      let high : g ≤ 20160 = le_trans (gap_allowed_top s ok g allowed) (gap_top_high s ok) in
      let z = fits_holds s g ok pos e in
      let m = count_at s.demand g in
      record {
        some = z.some;
        few = count_most s.demand g k.demand;
        long = le-mul_of_pos_right m pos;
        short = rw mul_comm (mul-le-mul_right m high);
        full = le_trans (le-mul_of_pos_right m k.size_low) z.low;
        light = le_trans z.high (rw mul_comm (mul-le-mul_right m k.size_high));
      }

  plan_at_proper : proper (even_plan_at s g) ≡ true
  unfolding even_plan_at
  plan_at_proper = sym (proper_kind (even_plan_at s g) bounds refl) ∙ rw (mul-mod_right (count_at s.demand g) g)

  plan_at_run : run (even_plan_at s g) ≡ evenly g (sizes_at s g)
  unfolding even_plan_at run kind_run
  plan_at_run = rw (mul-div_cancel_left g (fits_holds s g ok (gap_allowed_pos s g ok allowed) e).some)

  plan_at_obeys : Obeys s (run (even_plan_at s g))
  plan_at_obeys = rw plan_at_run (fits_obeys s g ok allowed e)

  -- its sizes are a list that obeys at its gap
  plan_at_own : Obeys s (evenly ((even_plan_at s g).period / (even_plan_at s g).count) (run (even_plan_at s g)).size)
  unfolding even_plan_at run kind_run
  plan_at_own = plan_at_obeys

  plan_at_gap : (even_plan_at s g).period / (even_plan_at s g).count ≡ g
  unfolding even_plan_at
  plan_at_gap = mul-div_cancel_left g (fits_holds s g ok (gap_allowed_pos s g ok allowed) e).some

  -- j × k reports in a row of any list that obeys at its gap, report 0 not among them, hold at least j × δ
  plan_at_least : (sizes : ℕ → ℕ) → Obeys s (evenly ((even_plan_at s g).period / (even_plan_at s g).count) sizes)
      → (j i : ℕ) → 1 ≤ i → j * (even_plan_at s g).total ≤ block sizes i (j * (even_plan_at s g).count)
  unfolding even_plan_at
  plan_at_least sizes o j i some =
      let obeys : Obeys s (evenly g sizes) = rw plan_at_gap at o in
      rows_least s g (gap_allowed_pos s g ok allowed) sizes obeys j i some

-- so what is true of the plan at such a gap is true of the plan that is given
plan_given : (s : Spec) (p : Plan) → even_plan s ≡ Ok p → (Claim : Plan → Type 0)
    → (IsAccepted s → gap_allowed s (even_gap s) ≡ true → fits s (even_gap s) ≡ true → Claim (even_plan_at s (even_gap s))) → Claim p
plan_given s p e Claim holds =
    let r = found s p e in
    let f = gap_right s r.1 in
    subst Claim r.2 (holds r.0 f.0 f.1)

-- an accepted specification alone has one
pub even_plan_accepted : (s : Spec) (p : Plan) → even_plan s ≡ Ok p → IsAccepted s
even_plan_accepted s p e = (found s p e).0

pub even_plan_obeys : (s : Spec) (p : Plan) → even_plan s ≡ Ok p → (proper p ≡ true) × Obeys s (run p)
even_plan_obeys s p e =
    plan_given s p e (λ q. (proper q ≡ true) × Obeys s (run q)) (λ ok allowed fit. (plan_at_proper s (even_gap s) ok allowed fit, plan_at_obeys s (even_gap s) ok allowed fit))

-- The plan's sizes are an endless list that obeys the rules at its gap, which is π/k.
pub even_plan_own : (s : Spec) (p : Plan) → even_plan s ≡ Ok p → Obeys s (evenly (p.period / p.count) (run p).size)
even_plan_own s p e = plan_given s p e (λ q. Obeys s (evenly (q.period / q.count) (run q).size)) (plan_at_own s (even_gap s))

-- In no list that obeys there do j × k reports in a row, report 0 not among them, hold less than j × δ.
pub even_plan_least : (s : Spec) (p : Plan) → even_plan s ≡ Ok p → (sizes : ℕ → ℕ) → Obeys s (evenly (p.period / p.count) sizes)
    → (j i : ℕ) → 1 ≤ i → j * p.total ≤ block sizes i (j * p.count)
even_plan_least s p e sizes =
    plan_given s p e (λ q. Obeys s (evenly (q.period / q.count) sizes) → (j i : ℕ) → 1 ≤ i → j * q.total ≤ block sizes i (j * q.count))
    (λ ok allowed fit. plan_at_least s (even_gap s) ok allowed fit sizes)

-- At every longer gap each endless list of sizes breaks a rule.
pub even_plan_longest : (s : Spec) (p : Plan) → even_plan s ≡ Ok p → (g : ℕ) → p.period / p.count < g → (sizes : ℕ → ℕ) → Breaks s (evenly g sizes)
even_plan_longest s p e g =
    plan_given s p e (λ q. q.period / q.count < g → (sizes : ℕ → ℕ) → Breaks s (evenly g sizes))
    (λ ok allowed fit longer. gap_longest s ok g (omega (arith, plan_at_gap s (even_gap s) ok allowed fit)))

pub even_plan_given : EvenPlanGiven
even_plan_given s ok g sizes o =
    let longest : g ≤ even_gap s = ⊎_elim (λ h. absurd (breaks_not_obeys s _ (gap_longest s ok g h sizes) o)) (λ h. h) (lt_cases (even_gap s) g) in
    let some : ¬ (even_gap s ≡ 0) = λ z. omega (arith, gap_allowed_pos s g ok (o.gaps 0)) in
    let f = gap_right s some in (
      even_plan_at s (even_gap s),
      sym (plan_some s ok refl (omega arith)),
      omega (arith, plan_at_gap s (even_gap s) ok f.0 f.1),
    )

-- 10 exactly when every schedule with one gap throughout breaks a rule, whatever the gap, 0 included, and whatever the sizes.
pub even_plan_refused : (s : Spec) → IsAccepted s → (even_plan s ≡ Err 10) ↔ ((g : ℕ) (sizes : ℕ → ℕ) → ¬ Obeys s (evenly g sizes))
even_plan_refused s ok = (
  λ e g sizes o. breaks_not_obeys s _ (gap_longest s ok g (omega (arith, refused s ok e, gap_allowed_pos s g ok (o.gaps 0))) sizes) o,
  λ none.
      ⊎_elim
      (λ h.
      let f = gap_right s (omega arith) in
      absurd (none (even_gap s) _ (fits_obeys s (even_gap s) ok f.0 f.1)))
      (λ h. sym (plan_none s ok (omega arith)))
      (lt_cases 0 (even_gap s)),
)

-- and so of a specification file
found_proper : (x : Result Spec ℕ) (p : Plan) → if_read x even_plan Err ≡ Ok p → proper p ≡ true
found_proper (Ok s) p e = (even_plan_obeys s p e).0
found_proper (Err n) p e = cc

pub even_of_proper : (b : List ℕ) (p : Plan) → even_of b ≡ Ok p → proper p ≡ true
even_of_proper b p e = found_proper (read_spec b) p e
