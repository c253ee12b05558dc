-- Few gaps are tried. A number is told of each gap, `left`, that falls with each jump: so there are no more tries from a gap on than that
-- number. It rises with the gap, so that the search of a shorter range has no more left than the last gap of a longer range had.
-- Each jump gives P minutes at least one report more. Where P < q × q, the gap is below q once they have q or more. So `left` is what the
-- reports lack to q, and the gap itself up to q: at most 2 × q. 142 × 142 is above 20,160.
use Prim.Native.Nat.{ℕ, zero, suc, ◌+◌, ◌-◌, ◌*◌, ◌/◌, ◌≤◌, ◌<◌, min}
use native.Mathlib.Omega.{arith}
use native.Mathlib.Nat.{le_trans, le_refl, le-div_iff_mul-le, mul-div-le, div-mul-le_self, mul-le-mul_left, lt_of_mul-lt-mul_right, min-le_left, min-le_right, le-min}
use mathlib.Core.Path.{◌≡◌, refl}
use mathlib.Core.Logic.{⊎_elim}
use mathlib.Core.Bool.{Bool, true, false}
use lib.Dec.{leb}
use borrow.Author.Tests.{leb-true}
use Rattle.std.specs.Prelude.{Option, None, Some}
use Rattle.spec.specs.declared.Rate.{Rate}
use Rattle.spec.specs.declared.Range.{Range}
use Rattle.spec.specs.declared.Spec.{Spec}
use Rattle.spec.specs.Limits.{range_of, IsAccepted}
use Rattle.spec.proofs.Facts.{facts, second_range}
use Rattle.spec.proofs.KnownRates.{present_limits}
use Rattle.numbers.proofs.Cases.{lt_cases}
use Rattle.even.specs.Jump.{next_gap}
use Rattle.even.specs.Search.{tries, tries_of, FewTries}
use Rattle.even.proofs.Jumps.{next_gap_less}

-- what is told of each gap
record Left (d : Option Rate) (left : ℕ → ℕ) : Type 0 where
  some : (s : ℕ) → 0 < s → 0 < left s
  falls : (s : ℕ) → 0 < s → 0 < next_gap d s → left (next_gap d s) < left s
  rises : (h s : ℕ) → 0 < h → h ≤ s → left h ≤ left s

module _ (d : Option Rate) (left : ℕ → ℕ) (known : Left d left) (lo : ℕ) (low : 0 < lo) where
  -- one try more, or the end
  tries_more : (n s b : ℕ) → (lo ≤ s → suc (tries d lo n (next_gap d s)) ≤ b) → tries d lo (suc n) s ≤ b
  unfolding tries
  tries_more n s b h = by_cases (leb lo s) refl
    where
      by_cases : (t : Bool) → leb lo s ≡ t → elim t [ true ↦ suc (tries d lo n (next_gap d s)) | false ↦ 0 ] ≤ b
      by_cases true e = h (leb-true lo s e)
      by_cases false e = omega arith

  -- no gap below the range is tried
  tries_end : (n s : ℕ) → s < lo → tries d lo n s ≤ 0
  unfolding tries
  tries_end zero s h = omega arith
  tries_end (suc n) s h = tries_more n s 0 (λ e. absurd (omega arith))

  -- the tries from s down take no more than what is left at s and not yet at h, a gap below the range, but for one
  tries_above : (h n s : ℕ) → 0 < h → h < lo → h ≤ s → tries d lo n s ≤ left s + 1 - left h
  unfolding tries
  tries_above h zero s pos below under = omega arith
  tries_above h (suc n) s pos below under =
      let next = next_gap d s in
      tries_more n s (left s + 1 - left h) (λ e.
      ⊎_elim
      (λ r. omega (arith, tries_end n next r, known.rises h s pos under))
      (λ r. omega (arith, tries_above h n next pos below (omega arith), known.falls s (omega arith) (omega arith), known.rises h next pos (omega arith)))
      (lt_cases next lo))

  -- and no more than what is left in all
  tries_left : (n s : ℕ) → 0 < s → tries d lo n s ≤ left s
  unfolding tries
  tries_left zero s pos = omega arith
  tries_left (suc n) s pos =
      let next = next_gap d s in
      tries_more n s (left s) (λ e.
      ⊎_elim
      (λ r. omega (arith, tries_left n next r, known.falls s pos r))
      (λ r. omega (arith, tries_end n next (omega arith), known.some s pos))
      (lt_cases 0 next))

-- with demand absent the first try of a range is its last
left_absent : Left None (λ s. 1)
unfolding next_gap
left_absent = record { some = λ s h. omega arith; falls = λ s h some. absurd (omega arith); rises = λ h s a b. omega arith }

abbrev lack : (p q s : ℕ) → ℕ
lack p q s = q - p / s + min s q

module _ (x : Rate) (q : ℕ) (square : x.minutes < q * q) where
  abbrev p : ℕ
  p = x.minutes

  gap_below : (s : ℕ) → q ≤ p / s → s < q
  gap_below s h = lt_of_mul-lt-mul_right q (omega (arith, mul-le-mul_left s h, mul-div-le p s))

  -- a jump gives P minutes at least one report more
  count_more : (s : ℕ) → 0 < next_gap (Some x) s → p / s + 1 ≤ p / next_gap (Some x) s
  unfolding next_gap
  count_more s pos = (le-div_iff_mul-le pos).1 (mul-div-le p (p / s + 1))

  lack_falls : (s : ℕ) → 0 < s → 0 < next_gap (Some x) s → lack p q (next_gap (Some x) s) < lack p q s
  lack_falls s pos there =
      let next = next_gap (Some x) s in
      let more = count_more s there in
      let less : next < s = next_gap_less (Some x) s pos in
      let no_longer : next ≤ s = omega arith in
      ⊎_elim
      (λ h. omega (arith, le-min (le_trans (min-le_left next q) no_longer) (min-le_right next q)))
      (λ h.
      let below : s ≤ q = omega (arith, gap_below s h) in
      omega (arith, min-le_left next q, le-min (le_refl s) below))
      (lt_cases (p / s) q)

  left_present : Left (Some x) (lack p q)
  left_present = record {
    some = λ s pos.
        let q-some : 0 < q = ⊎_elim (λ h. h) (λ h. absurd (let z : q ≡ 0 = omega arith in let u : p < 0 * 0 = rw z at square in omega arith)) (lt_cases 0 q) in
        omega (arith, le-min pos q-some);
    falls = lack_falls;
    rises = λ h s pos under.
        let fewer : p / s ≤ p / h = (le-div_iff_mul-le pos).1 (le_trans (mul-le-mul_left (p / s) under) (div-mul-le_self p s)) in
        omega (arith, le-min (le_trans (min-le_left h q) under) (min-le_right h q));
  }

-- at most b tries of one range, and one more of both together
abbrev TriesWithin : (b : ℕ) → Spec → ℕ → Type 0
TriesWithin b spec n =
    ((lo hi : ℕ) → 0 < lo → tries spec.demand lo n hi ≤ b)
    × (tries_of spec.demand spec.second n + tries_of spec.demand (Some (range_of spec.smin spec.smax)) n ≤ b + 1)

-- so it is where no more than b are left at any gap: of one range, whatever the specification,
of_one : (d : Option Rate) (left : ℕ → ℕ) → Left d left → (b : ℕ) → ((s : ℕ) → left s ≤ b) → (n lo hi : ℕ) → 0 < lo → tries d lo n hi ≤ b
of_one d left known b most n lo hi low =
    ⊎_elim
    (λ some. omega (arith, tries_left d left known lo low n hi some, most hi))
    (λ none. omega (arith, tries_end d left known lo low n hi (omega arith)))
    (lt_cases 0 hi)

-- and of both of an accepted one
module _ (spec : Spec) (ok : IsAccepted spec) (left : ℕ → ℕ) (known : Left spec.demand left) (b n : ℕ) (most : (s : ℕ) → left s ≤ b) where
  some_gap : 0 < spec.smax
  some_gap = let f = facts spec ok in omega (arith, f.gap_low, f.gaps)

  of_first : tries spec.demand spec.smin n spec.smax ≤ left spec.smax
  of_first = tries_left spec.demand left known spec.smin (facts spec ok).gap_low n spec.smax some_gap

  of_both : (x : Option Range) → spec.second ≡ x → tries_of spec.demand x n + tries_of spec.demand (Some (range_of spec.smin spec.smax)) n ≤ b + 1
  unfolding tries_of
  of_both None e = omega (arith, of_first, most spec.smax)
  of_both (Some x) e =
      let lo = x.min in
      let hi = x.max in
      let r = second_range spec lo hi ok e in
      let longer : spec.smax ≤ hi = omega (arith, r.above, r.order) in
      let of-second = tries_above spec.demand left known lo (omega (arith, r.above)) spec.smax n hi some_gap r.above longer in
      omega (arith, of-second, of_first, known.rises spec.smax hi some_gap longer, most hi)

  tries_within : TriesWithin b spec n
  tries_within = (of_one spec.demand left known b most n, of_both spec.second refl)

-- of one range at most 284, where P is no more than 20,160
pub few_of_one : (d : Option Rate) → ((x : Rate) → d ≡ Some x → x.minutes ≤ 20160) → (n lo hi : ℕ) → 0 < lo → tries d lo n hi ≤ 284
few_of_one None most n = of_one None (λ s. 1) left_absent 284 (λ s. omega arith) n
few_of_one (Some x) most n =
    let few : x.minutes < 142 * 142 = omega (arith, most x refl) in
    of_one (Some x) (lack x.minutes 142) (left_present x 142 few) 284 (λ s. omega (arith, min-le_right s 142)) n

pub few_tries : FewTries
few_tries spec ok n = by spec.demand refl
  where
    by : (d : Option Rate) → spec.demand ≡ d → TriesWithin 284 spec n
    by None e = tries_within spec ok (λ s. 1) (rw e left_absent) 284 n (λ s. omega arith)
    by (Some x) e =
        let few : x.minutes < 142 * 142 = omega (arith, (present_limits e (facts spec ok).demand).3) in
        tries_within spec ok (lack x.minutes 142) (rw e (left_present x 142 few)) 284 n (λ s. omega (arith, min-le_right s 142))
