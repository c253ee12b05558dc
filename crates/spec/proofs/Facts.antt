-- What is known of the numbers of an accepted specification, and what it is for a size or a gap to be allowed.
use Prim.Native.Nat.{ℕ, ◌≤◌, ◌<◌}
use native.Mathlib.Omega.{arith}
use mathlib.Core.Path.{◌≡◌, refl}
use mathlib.Core.Logic.{◌⊎◌, inl, inr, ◌↔◌, ⊎_elim}
use mathlib.Core.Bool.{Bool, true, false, ◌||◌, and-eq-true_iff, and-false}
use lib.Dec.{leb}
use borrow.Author.Tests.{leb-true, le-leb, lt-leb, ltb-true, ltb-false, le-ltb}
use Rattle.std.specs.Prelude.{Option, None, Some}
use Rattle.spec.specs.declared.Range.{Range}
use Rattle.spec.specs.declared.Spec.{Spec}
use Rattle.spec.specs.Limits.{range_of, between, limits, order, rate_limits, range_limits, range_order, starts_above, in_range, first_number, spec_number, IsAccepted, size_allowed, gap_allowed, top_of, gap_top}

pub leb_iff : (a b : ℕ) → (leb a b ≡ true) ↔ (a ≤ b)
leb_iff a b = (leb-true a b, le-leb a b)

pub between_iff : (lo hi x : ℕ) → (between lo hi x ≡ true) ↔ ((lo ≤ x) × (x ≤ hi))
between_iff lo hi x = (λ e. simp (and-eq-true_iff, leb_iff) at e, λ h. rw (le-leb _ _ h.0, le-leb _ _ h.1))

pub either_iff : (b c : Bool) → (b || c ≡ true) ↔ ((b ≡ true) ⊎ (c ≡ true))
either_iff true c = (λ e. inl refl, λ h. refl)
either_iff false c = (λ e. inr e, λ h. ⊎_elim (λ e. absurd (let z : ◌≡◌ {A = ℕ} 0 1 = cc in omega arith)) (λ e. e) h)

-- the number is 0 only where all three tests pass, and 24 where the last alone fails
zero_all : (b c d : Bool) → first_number b c d ≡ 0 → (b ≡ true) × (c ≡ true) × (d ≡ true)
unfolding first_number
zero_all true true true e = (refl, refl, refl)
zero_all true true false e = absurd (omega arith)
zero_all true false d e = absurd (omega arith)
zero_all false c d e = absurd (omega arith)

last_fails : (b c d : Bool) → (first_number b c d ≡ 24) ↔ ((b ≡ true) × (c ≡ true) × (d ≡ false))
unfolding first_number
last_fails true true true = (λ e. absurd (omega arith), λ h. absurd (let d = h.2 in let z : ◌≡◌ {A = ℕ} 0 1 = cc in omega arith))
last_fails true true false = (λ e. (refl, refl, refl), λ h. refl)
last_fails true false d = (λ e. absurd (omega arith), λ h. absurd (let c = h.1 in let z : ◌≡◌ {A = ℕ} 0 1 = cc in omega arith))
last_fails false c d = (λ e. absurd (omega arith), λ h. absurd (let b = h.0 in let z : ◌≡◌ {A = ℕ} 0 1 = cc in omega arith))

-- 24, in numbers: ranges that touch do not get it
starts_low : (x : Option Range) (top : ℕ) → (starts_above x top ≡ false) ↔ ((lo : ℕ) × (hi : ℕ) × (x ≡ Some (range_of lo hi)) × (lo ≤ top))
unfolding starts_above
starts_low None top = (
  λ e. absurd (let z : ◌≡◌ {A = ℕ} 0 1 = cc in omega arith),
  λ h. absurd (let e : None ≡ Some (range_of h.0 h.1) = h.2 in let z : ◌≡◌ {A = ℕ} 0 1 = cc in omega arith),
)
starts_low (Some x) top = (
  λ e. (x.min, x.max, refl, ltb-false top x.min e),
  λ h.
      let e : x ≡ range_of h.0 h.1 = let e : Some x ≡ Some (range_of h.0 h.1) = h.2 in cc in
      le-ltb top x.min (rw e h.3),
)

pub number_24 : (s : Spec)
    → (spec_number s ≡ 24) ↔ ((limits s ≡ true) × (order s ≡ true) × ((lo : ℕ) × (hi : ℕ) × (s.second ≡ Some (range_of lo hi)) × (lo ≤ s.smax)))
unfolding spec_number
number_24 s =
    let last = last_fails (limits s) (order s) (starts_above s.second s.smax) in
    let low = starts_low s.second s.smax in
    (λ e. let h = last.0 e in (h.0, h.1, low.0 h.2), λ h. last.1 (h.0, h.1, low.1 h.2))

pub record Facts (s : Spec) : Type 0 where
  pub size_low : 1 ≤ s.dmin
  pub sizes : s.dmin ≤ s.dmax
  pub size_high : s.dmax ≤ 1000
  pub gap_low : 1 ≤ s.smin
  pub gaps : s.smin ≤ s.smax
  pub gap_high : s.smax ≤ 20160
  pub supply : rate_limits s.supply ≡ true
  pub demand : rate_limits s.demand ≡ true
  pub duration : range_limits 60000 s.duration ≡ true
  pub duration_order : range_order s.duration ≡ true
  pub second : range_limits 20160 s.second ≡ true
  pub second_order : range_order s.second ≡ true
  pub second_above : starts_above s.second s.smax ≡ true

pub facts : (s : Spec) → IsAccepted s → Facts s
unfolding spec_number limits order
facts s e =
    let h = zero_all (limits s) (order s) (starts_above s.second s.smax) e in
    let l = simp (and-eq-true_iff, leb_iff) at h.0 in
    let o = simp (and-eq-true_iff, leb_iff) at h.1 in
    record {
      size_low = omega arith;
      sizes = omega arith;
      size_high = omega arith;
      gap_low = omega arith;
      gaps = omega arith;
      gap_high = omega arith;
      supply = l.0.0.0.1;
      demand = l.0.0.1;
      duration = l.0.1;
      duration_order = o.0.1;
      second = l.1;
      second_order = o.1;
      second_above = h.2;
    }

pub range_limits_iff : (top lo hi : ℕ) → (range_limits top (Some (range_of lo hi)) ≡ true) ↔ ((1 ≤ lo) × (lo ≤ top) × (1 ≤ hi) × (hi ≤ top))
unfolding range_limits
range_limits_iff top lo hi = (
  λ e. let h = simp (and-eq-true_iff, leb_iff) at e in (h.0.0, h.0.1, h.1.0, h.1.1),
  λ h. simp (and-eq-true_iff, leb_iff) ((h.0, h.1), (h.2, h.3)),
)

-- the second range, where there is one
pub record Second (s : Spec) (lo hi : ℕ) : Type 0 where
  pub above : s.smax < lo
  pub order : lo ≤ hi
  pub high : hi ≤ 20160

pub second_range : (s : Spec) (lo hi : ℕ) → IsAccepted s → s.second ≡ Some (range_of lo hi) → Second s lo hi
unfolding range_order starts_above
second_range s lo hi a e =
    let f = facts s a in
    record {
      above = ltb-true _ _ (rw e at f.second_above);
      order = leb-true _ _ (rw e at f.second_order);
      high = ((range_limits_iff 20160 lo hi).0 (rw e at f.second)).3;
    }

-- the first range is as good a range as the second
pub first_range : (s : Spec) → IsAccepted s → range_limits 20160 (Some (range_of s.smin s.smax)) ≡ true
first_range s a =
    let f = facts s a in
    (range_limits_iff 20160 s.smin s.smax).1 (f.gap_low, omega (arith, f.gaps, f.gap_high), omega (arith, f.gap_low, f.gaps), f.gap_high)

pub size_allowed_iff : (s : Spec) (d : ℕ) → (size_allowed s d ≡ true) ↔ ((s.dmin ≤ d) × (d ≤ s.dmax))
unfolding size_allowed
size_allowed_iff s d = between_iff s.dmin s.dmax d

pub size_below : (s : Spec) (d : ℕ) → d < s.dmin → size_allowed s d ≡ false
unfolding size_allowed
size_below s d h = rw (lt-leb s.dmin d h)

pub size_above : (s : Spec) (d : ℕ) → s.dmax < d → size_allowed s d ≡ false
unfolding size_allowed
size_above s d h = rw (lt-leb d s.dmax h, and-false)

-- a gap is allowed in the first range, or in the second
pub gap_allowed_iff : (s : Spec) (g : ℕ) → (gap_allowed s g ≡ true) ↔ (((s.smin ≤ g) × (g ≤ s.smax)) ⊎ (in_range s.second g ≡ true))
unfolding gap_allowed
gap_allowed_iff s g = (
  λ e. ⊎_elim (λ h. inl ((between_iff s.smin s.smax g).0 h)) (λ h. inr h) ((either_iff _ _).0 e),
  λ h. (either_iff _ _).1 (⊎_elim (λ k. inl ((between_iff s.smin s.smax g).1 k)) (λ k. inr k) h),
)

-- no number is in a range that is absent
pub in_none : (g : ℕ) → ¬ (in_range None g ≡ true)
unfolding in_range
in_none g e = absurd (let z : ◌≡◌ {A = ℕ} 0 1 = cc in omega arith)

pub in_bounds : (lo hi g : ℕ) → (in_range (Some (range_of lo hi)) g ≡ true) ↔ ((lo ≤ g) × (g ≤ hi))
unfolding in_range
in_bounds lo hi g = between_iff lo hi g

pub in_range_iff : (x : Option Range) (g : ℕ) → (in_range x g ≡ true) ↔ ((lo : ℕ) × (hi : ℕ) × (x ≡ Some (range_of lo hi)) × (lo ≤ g) × (g ≤ hi))
in_range_iff None g = (
  λ e. absurd (in_none g e),
  λ h. absurd (let e : None ≡ Some (range_of h.0 h.1) = h.2 in let z : ◌≡◌ {A = ℕ} 0 1 = cc in omega arith),
)
in_range_iff (Some x) g = (
  λ e. let k = (in_bounds x.min x.max g).0 e in (x.min, x.max, refl, k.0, k.1),
  λ h.
      let e : x ≡ range_of h.0 h.1 = let e : Some x ≡ Some (range_of h.0 h.1) = h.2 in cc in
      rw e ((in_bounds h.0 h.1 g).1 (h.3, h.4)),
)

-- so it is in either
pub gap_in_either : (s : Spec) (g : ℕ)
    → (gap_allowed s g ≡ true)
    ↔ (((s.smin ≤ g) × (g ≤ s.smax)) ⊎ ((lo : ℕ) × (hi : ℕ) × (s.second ≡ Some (range_of lo hi)) × (lo ≤ g) × (g ≤ hi)))
gap_in_either s g =
    let allowed = gap_allowed_iff s g in
    let second = in_range_iff s.second g in (
      λ e. ⊎_elim (λ h. inl h) (λ h. inr (second.0 h)) (allowed.0 e),
      λ h. allowed.1 (⊎_elim (λ k. inl k) (λ k. inr (second.1 k)) h),
    )

-- a gap that is allowed is not below smin, is no 0, is not above the top, and has no more than 16 bits
pub gap_allowed_least : (s : Spec) (g : ℕ) → IsAccepted s → gap_allowed s g ≡ true → s.smin ≤ g
gap_allowed_least s g a e =
    ⊎_elim
    (λ h. h.0)
    (λ h.
    let k = (in_range_iff s.second g).0 h in
    omega (arith, (facts s a).gaps, (second_range s k.0 k.1 a k.2).above, k.3))
    ((gap_allowed_iff s g).0 e)

pub gap_allowed_pos : (s : Spec) (g : ℕ) → IsAccepted s → gap_allowed s g ≡ true → 1 ≤ g
gap_allowed_pos s g a e = omega (arith, (facts s a).gap_low, gap_allowed_least s g a e)

-- where the first range ends no later than the second, no longer gap is allowed
pub allowed_top : (s : Spec) → s.smax ≤ gap_top s → (g : ℕ) → gap_allowed s g ≡ true → g ≤ gap_top s
unfolding top_of
allowed_top s rises g e =
    ⊎_elim
    (λ h. omega (arith, h.1, rises))
    (λ h.
    let k = (in_range_iff s.second g).0 h in
    rw k.2 k.4)
    ((gap_allowed_iff s g).0 e)

module _ (s : Spec) (a : IsAccepted s) where
  -- the top is at least smax, and at least every gap of the second range
  top_bounds : (x : Option Range) → s.second ≡ x → (s.smax ≤ top_of x s.smax) × (top_of x s.smax ≤ 20160)
  unfolding top_of
  top_bounds None e = (omega arith, (facts s a).gap_high)
  top_bounds (Some x) e = let k = second_range s x.min x.max a e in (omega (arith, k.above, k.order), k.high)

  pub ranges_rise : s.smax ≤ gap_top s
  ranges_rise = (top_bounds s.second refl).0

  pub gap_allowed_top : (g : ℕ) → gap_allowed s g ≡ true → g ≤ gap_top s
  gap_allowed_top g e = allowed_top s ranges_rise g e

  pub gap_top_high : gap_top s ≤ 20160
  gap_top_high = (top_bounds s.second refl).1
