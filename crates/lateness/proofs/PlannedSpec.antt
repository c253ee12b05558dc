-- The specification that planned minutes must meet. Where ranges that touch are joined, every gap from g - J to g + J is allowed exactly when
-- g is J minutes or more inside one range: otherwise some gap between the two ranges, or past them, is among those. With J = 0 gaps and
-- rates are the given ones.
use Prim.Native.Nat.{ℕ, ◌+◌, ◌-◌, ◌*◌, ◌^◌, ◌≤◌, ◌<◌}
use native.Mathlib.Omega.{arith}
use native.Mathlib.Nat.{le_trans}
use mathlib.Core.Path.{◌≡◌, refl, sym, ◌∙◌}
use mathlib.Core.Logic.{◌↔◌, ◌⊎◌, inl, inr, ⊎_elim}
use mathlib.Core.Bool.{Bool, true, false, cond, and-eq-true_iff}
use lib.Dec.{eqb}
use borrow.Author.Tests.{eq-eqb, ne_eqb}
use Rattle.std.specs.Prelude.{Option, None, Some}
use Rattle.numbers.proofs.All.{all_right, same_test}
use Rattle.numbers.proofs.Cases.{lt_cases}
use Rattle.spec.specs.declared.Rate.{Rate}
use Rattle.spec.specs.declared.Range.{Range}
use Rattle.spec.specs.declared.Spec.{Spec}
use Rattle.spec.specs.Limits.{rate_of, range_of, rate_limits, range_limits, in_range, IsAccepted, gap_allowed, top_of, gap_top}
use Rattle.spec.proofs.Facts.{leb_iff, facts, second_range, gap_allowed_iff, gap_allowed_pos, gap_allowed_top, gap_top_high, in_none, in_bounds}
use Rattle.lateness.specs.Lateness.{late_gap_allowed, late_supply, late_demand}
use Rattle.lateness.specs.PlannedSpec.{joined_end, second_apart, shortened, planned_spec}

-- a rate's minutes and a range's bounds, with J added, fit 16 bits
pub minutes_fit : (rate : Option Rate) (x : Rate) {lateness : ℕ} → rate ≡ Some x → rate_limits rate ≡ true → lateness ≤ 1440 → x.minutes + lateness < 2 ^ 16
unfolding rate_limits
minutes_fit rate x e h few = let k = simp (and-eq-true_iff, leb_iff) at (rw e at h) in omega arith

pub bound_fits : (range : Option Range) (x : Range) {lateness : ℕ} → range ≡ Some x → range_limits 20160 range ≡ true → lateness ≤ 1440 → x.min + lateness < 2 ^ 16
unfolding range_limits
bound_fits range x e h few = let k = simp (and-eq-true_iff, leb_iff) at (rw e at h) in omega arith

-- a second range that is not joined is the given one
pub apart_limits : (smax : ℕ) (range : Option Range) → range_limits 20160 range ≡ true → range_limits 20160 (second_apart smax range) ≡ true
unfolding second_apart range_limits
apart_limits smax None h = refl
apart_limits smax (Some x) h = pick (eqb x.min (smax + 1))
  where
    pick : (b : Bool) → range_limits 20160 (cond b None (Some x)) ≡ true
    pick true = refl
    pick false = h

-- x is in a to b
abbrev pub In : ℕ → ℕ → ℕ → Type 0
In a b x = (a ≤ x) × (x ≤ b)

-- ranges that touch join, and others do not
module _ (smax lo hi : ℕ) where
  abbrev second : Option Range
  second = Some (range_of lo hi)

  touching : lo ≡ smax + 1 → (joined_end smax second ≡ hi) × (second_apart smax second ≡ None)
  unfolding joined_end second_apart
  touching e = rw (eq-eqb lo (smax + 1) e) (refl, refl)

  apart : ¬ (lo ≡ smax + 1) → (joined_end smax second ≡ smax) × (second_apart smax second ≡ second)
  unfolding joined_end second_apart
  apart h = rw (ne_eqb lo (smax + 1) h) (refl, refl)

-- The first range is a to b, the second c to d, above it. Where they touch the first ends with d; otherwise b + 1 is in neither.
module _ (a b c d : ℕ) (low : 1 ≤ a) (above : b < c) (second : c ≤ d) where
  abbrev Touch : Type 0
  Touch = (c ≡ b + 1) × (joined_end b (Some (range_of c d)) ≡ d) × (second_apart b (Some (range_of c d)) ≡ None)

  abbrev Apart : Type 0
  Apart = (b + 1 < c) × (joined_end b (Some (range_of c d)) ≡ b) × (second_apart b (Some (range_of c d)) ≡ Some (range_of c d))

  end_cases : Touch ⊎ Apart
  end_cases =
      ⊎_elim
      (λ h. let k = apart b c d (λ e. omega arith) in inr (h, k.0, k.1))
      (λ h. let e : c ≡ b + 1 = omega arith in let k = touching b c d e in inl (e, k.0, k.1))
      (lt_cases (b + 1) c)

  -- what is left of the second range once it is shortened: nothing where it is joined, whose numbers are then those of the first
  module _ (lateness g : ℕ) where
    abbrev left : Option Range
    left = shortened lateness (second_apart b (Some (range_of c d)))

    in_second : in_range left g ≡ true → In (c + lateness) (d - lateness) g
    unfolding shortened
    in_second h =
        ⊎_elim
        (λ (joined : Touch). absurd (in_none g (rw joined.2 at h)))
        (λ (ends : Apart). (in_bounds (c + lateness) (d - lateness) g).0 (rw ends.2 at h))
        end_cases

    second_in : a ≤ b → In (c + lateness) (d - lateness) g → In (a + lateness) (joined_end b (Some (range_of c d)) - lateness) g ⊎ (in_range left g ≡ true)
    unfolding shortened
    second_in first h =
        ⊎_elim
        (λ (joined : Touch). inl (omega (arith, joined.0, h.0), omega (arith, joined.1, h.1)))
        (λ (ends : Apart). inr (rw ends.2 ((in_bounds (c + lateness) (d - lateness) g).1 h)))
        end_cases

  module _ (lo hi : ℕ) (some : lo ≤ hi) where
    pub inside : ((x : ℕ) → In lo hi x → In a b x ⊎ In c d x) → ((a ≤ lo) × (hi ≤ joined_end b (Some (range_of c d)))) ⊎ ((c ≤ lo) × (hi ≤ d))
    inside h = ⊎_elim first (λ p. inr (p.0, ⊎_elim (λ q. absurd (omega arith)) (λ q. q.1) (h hi (some, omega arith)))) (h lo (omega arith, some))
      where
        first : In a b lo → ((a ≤ lo) × (hi ≤ joined_end b (Some (range_of c d)))) ⊎ ((c ≤ lo) × (hi ≤ d))
        first p =
            ⊎_elim
            (λ joined. inl (p.0, ⊎_elim (λ q. omega arith) (λ q. omega arith) (h hi (some, omega arith))))
            (λ ends.
            inl (
              p.0,
              ⊎_elim
                  (λ (over : b < hi). absurd (⊎_elim (λ q. omega arith) (λ q. omega arith) (h (b + 1) (omega arith, omega arith))))
                  (λ (within : hi ≤ b). omega arith)
                  (lt_cases b hi),
            ))
            end_cases

    pub covers : ((a ≤ lo) × (hi ≤ joined_end b (Some (range_of c d)))) ⊎ ((c ≤ lo) × (hi ≤ d)) → (x : ℕ) → In lo hi x → In a b x ⊎ In c d x
    covers h x q =
        ⊎_elim
        (λ p.
        ⊎_elim
        (λ past. ⊎_elim (λ joined. inr (omega arith, omega arith)) (λ ends. absurd (omega arith)) end_cases)
        (λ until. inl (omega arith, omega arith))
        (lt_cases b x))
        (λ p. inr (omega arith, omega arith))
        h

-- the gaps that a delayed one can be, from g - J to g + J
abbrev pub Near : ℕ → ℕ → ℕ → Type 0
Near lateness g x = In (g - lateness) (g + lateness) x

pub near_iff : (spec : Spec) (lateness g : ℕ) → (late_gap_allowed spec lateness g ≡ true) ↔ ((x : ℕ) → Near lateness g x → gap_allowed spec x ≡ true)
unfolding late_gap_allowed
near_iff spec lateness g =
    let k = all_right (λ x. gap_allowed spec (g + x - lateness)) (2 * lateness + 1) in (
      λ e x q. let z : g + (x + lateness - g) - lateness ≡ x = omega arith in rw z at (k.0 e (x + lateness - g) (omega arith)),
      λ h. k.1 (λ y q. h (g + y - lateness) (omega arith, omega arith)),
    )

module _ (spec : Spec) (accepted : IsAccepted spec) (lateness g : ℕ) where
  -- what it is for a gap to be allowed of planned reports, and for all that it can become to be allowed, by the second range
  abbrev Planned : Option Range → Type 0
  Planned x = In (spec.smin + lateness) (joined_end spec.smax x - lateness) g ⊎ (in_range (shortened lateness (second_apart spec.smax x)) g ≡ true)

  abbrev Arrived : Option Range → Type 0
  Arrived x = (y : ℕ) → Near lateness g y → In spec.smin spec.smax y ⊎ (in_range x y ≡ true)

  no_second : Planned None ↔ Arrived None
  unfolding shortened second_apart joined_end
  no_second =
      let f = facts spec accepted in (
        λ h y q. ⊎_elim (λ k. inl (omega (arith, f.gap_low), omega (arith, f.gap_low))) (λ k. absurd (in_none g k)) h,
        λ h.
            let first : (y : ℕ) → Near lateness g y → In spec.smin spec.smax y = λ y q. ⊎_elim (λ k. k) (λ k. absurd (in_none y k)) (h y q) in
            inl (omega (arith, f.gap_low, first (g - lateness) (omega arith, omega arith)), omega (arith, first (g + lateness) (omega arith, omega arith))),
      )

  both_ranges : (c d : ℕ) → spec.second ≡ Some (range_of c d) → Planned (Some (range_of c d)) ↔ Arrived (Some (range_of c d))
  both_ranges c d e =
      let f = facts spec accepted in
      let two = second_range spec c d accepted e in
      let lo = g - lateness in
      let hi = g + lateness in
      let end = joined_end spec.smax (Some (range_of c d)) in
      let some : lo ≤ hi = omega arith in (
        λ h y q.
            let within : ((spec.smin ≤ lo) × (hi ≤ end)) ⊎ ((c ≤ lo) × (hi ≤ d)) =
            ⊎_elim
            (λ k. inl (omega arith, omega (arith, f.gap_low)))
            (λ k. let b = in_second spec.smin spec.smax c d f.gap_low two.above two.order lateness g k in inr (omega (arith, b.0), omega (arith, b.1, two.above)))
            h in
            ⊎_elim (λ k. inl k) (λ k. inr ((in_bounds c d y).1 k)) (covers spec.smin spec.smax c d f.gap_low two.above two.order lo hi some within y q),
        λ h.
            let each : (y : ℕ) → In lo hi y → In spec.smin spec.smax y ⊎ In c d y = λ y q. ⊎_elim (λ k. inl k) (λ k. inr ((in_bounds c d y).0 k)) (h y q) in
            ⊎_elim
            (λ k. inl (omega (arith, f.gap_low), omega arith))
            (λ k. second_in spec.smin spec.smax c d f.gap_low two.above two.order lateness g f.gaps (omega (arith, two.above), omega arith))
            (inside spec.smin spec.smax c d f.gap_low two.above two.order lo hi some each),
      )

  by_range : (x : Option Range) → spec.second ≡ x → Planned x ↔ Arrived x
  by_range None e = no_second
  by_range (Some x) e = both_ranges x.min x.max e

  pub planned_gap : late_gap_allowed spec lateness g ≡ gap_allowed (planned_spec spec lateness) g
  unfolding planned_spec
  planned_gap =
      let near = near_iff spec lateness g in
      let ranges = by_range spec.second refl in
      let allowed = gap_allowed_iff (planned_spec spec lateness) g in
      same_test _ _ (
        λ e. allowed.1 (ranges.1 (λ y q. (gap_allowed_iff spec y).0 (near.0 e y q))),
        λ e. near.1 (λ y q. (gap_allowed_iff spec y).1 (ranges.0 (allowed.0 e) y q)),
      )

pub near_gap : (spec : Spec) (lateness g : ℕ) → IsAccepted spec
    → (gap_allowed (planned_spec spec lateness) g ≡ true) ↔ ((x : ℕ) → g - lateness ≤ x → x ≤ g + lateness → gap_allowed spec x ≡ true)
near_gap spec lateness g accepted =
    let near = near_iff spec lateness g in
    let same = planned_gap spec accepted lateness g in
    (λ e x low high. near.0 (same ∙ e) x (low, high), λ h. sym same ∙ near.1 (λ x q. h x q.0 q.1))

-- on time, with J = 0: of the gaps from g to g there is one, and the rates are the given ones
pub gap_on_time : (spec : Spec) (g : ℕ) → late_gap_allowed spec 0 g ≡ gap_allowed spec g
gap_on_time spec g =
    let near = near_iff spec 0 g in
    same_test _ _ (
      λ e. near.0 e g (omega arith, omega arith),
      λ e. near.1 (λ x q. let z : x ≡ g = omega arith in rw z e),
    )

same_minutes : (records m n : ℕ) → m ≡ n → Some (rate_of records m) ≡ Some (rate_of records n)
same_minutes records m n e = rw e

pub supply_on_time : (rate : Option Rate) → late_supply 0 rate ≡ rate
unfolding late_supply
supply_on_time None = refl
supply_on_time (Some x) = same_minutes x.records _ x.minutes (omega arith)

pub demand_on_time : (rate : Option Rate) → late_demand 0 rate ≡ rate
unfolding late_demand
demand_on_time None = refl
demand_on_time (Some x) = same_minutes x.records _ x.minutes (omega arith)

-- the first range ends no later than the second, if there is one left
module _ (smax lateness : ℕ) where
  no_later : joined_end smax None - lateness ≤ top_of (shortened lateness (second_apart smax None)) (joined_end smax None - lateness)
  unfolding second_apart shortened top_of
  no_later = omega arith

  later : (lo hi : ℕ) → smax < lo → lo ≤ hi
      → joined_end smax (Some (range_of lo hi)) - lateness ≤ top_of (shortened lateness (second_apart smax (Some (range_of lo hi)))) (joined_end smax (Some (range_of lo hi)) - lateness)
  unfolding shortened top_of
  later lo hi above order =
      ⊎_elim
      (λ h. let k = apart smax lo hi (λ e. omega arith) in rw k.1 (omega (arith, k.0)))
      (λ h. let k = touching smax lo hi (omega arith) in rw k.1 (omega arith))
      (lt_cases (smax + 1) lo)

-- Of what planned minutes must meet, whatever J is: the allowed gaps are gaps of the given specification, and the first range ends no later than the second.
module _ (spec : Spec) (accepted : IsAccepted spec) (lateness : ℕ) where
  given_gap : (g : ℕ) → gap_allowed (planned_spec spec lateness) g ≡ true → gap_allowed spec g ≡ true
  given_gap g e = (near_iff spec lateness g).0 (planned_gap spec accepted lateness g ∙ e) g (omega arith, omega arith)

  pub planned_range : (g : ℕ) → gap_allowed (planned_spec spec lateness) g ≡ true → (1 ≤ g) × (g ≤ 20160)
  planned_range g e =
      let given = given_gap g e in
      (gap_allowed_pos spec g accepted given, le_trans (gap_allowed_top spec accepted g given) (gap_top_high spec accepted))

  pub planned_rises : (planned_spec spec lateness).smax ≤ gap_top (planned_spec spec lateness)
  unfolding planned_spec
  planned_rises = by_second spec.second refl
    where
      by_second : (x : Option Range) → spec.second ≡ x
          → joined_end spec.smax x - lateness ≤ top_of (shortened lateness (second_apart spec.smax x)) (joined_end spec.smax x - lateness)
      by_second None e = no_later spec.smax lateness
      by_second (Some x) e = let two = second_range spec x.min x.max accepted e in later spec.smax lateness x.min x.max two.above two.order
