-- Why the search may jump. Of two gaps with as many reports in P minutes, the longer has no more reports in R minutes, so it fits
-- if the shorter does. The gaps between s and `next_gap` have as many reports in P minutes as s.
use Prim.Native.Nat.{ℕ, ◌+◌, ◌*◌, ◌/◌, ◌≤◌, ◌<◌}
use native.Mathlib.Omega.{arith}
use native.Mathlib.Nat.{le_trans, le-div_iff_mul-le, div-lt_iff_lt-mul, lt-div-mul-add, div-mul-le_self, mul-le-mul_left, mul-le-mul_right, mul_comm, add-mul}
use mathlib.Core.Path.{◌≡◌, refl}
use mathlib.Core.Bool.{Bool, true, false, and-eq-true_iff}
use borrow.Author.Tests.{leb-true, le-leb}
use Rattle.std.specs.Prelude.{Option, None, Some}
use Rattle.spec.specs.declared.Rate.{Rate}
use Rattle.spec.specs.declared.Spec.{Spec}
use Rattle.even.specs.Even.{count_at, total_of, demand_fits, supply_fits, fits}
use Rattle.even.specs.Jump.{next_gap}
use Rattle.numbers.proofs.Ceilings.{ceil_falls}

supply_longer : (r : Option Rate) (t s m δ : ℕ) → 0 < t → t ≤ s → supply_fits r t m δ ≡ true → supply_fits r s m δ ≡ true
unfolding supply_fits
supply_longer None t s m δ pos h e = refl
supply_longer (Some x) t s m δ pos h e =
    le-leb _ _ (le_trans (mul-le-mul_right δ (ceil_falls x.minutes t s pos h)) (leb-true _ _ e))

fits_longer : (spec : Spec) (t s : ℕ) → 0 < t → t ≤ s → count_at spec.demand t ≡ count_at spec.demand s → fits spec t ≡ true → fits spec s ≡ true
unfolding fits
fits_longer spec t s pos h same e =
    let m = count_at spec.demand s in
    let δ = total_of spec.demand spec.dmin m in
    let k = (and-eq-true_iff (demand_fits spec.demand spec.dmax m) _).0 (rw same at e) in
    (and-eq-true_iff (demand_fits spec.demand spec.dmax m) _).1 (k.0, supply_longer spec.supply t s m δ pos h k.1)

pub next_gap_less : (d : Option Rate) (s : ℕ) → 0 < s → next_gap d s < s
unfolding next_gap
next_gap_less None s pos = pos
next_gap_less (Some x) s pos =
    let p = x.minutes in
    (div-lt_iff_lt-mul {k = p / s + 1} {x = p} {y = s} (omega arith)).1
    (rw mul_comm (omega (arith, add-mul (p / s) 1 s, lt-div-mul-add {a = p} {b = s} pos)))

pub same_count : (d : Option Rate) (s t : ℕ) → 0 < s → next_gap d s < t → t ≤ s → count_at d t ≡ count_at d s
unfolding next_gap count_at
same_count None s t pos a b = refl
same_count (Some x) s t pos a b =
    let p = x.minutes in
    let tpos : 0 < t = omega arith in
    let u : p < t * (p / s + 1) = (div-lt_iff_lt-mul {k = p / s + 1} {x = p} {y = t} (omega arith)).0 a in
    let v : p / t < p / s + 1 = (div-lt_iff_lt-mul {k = t} {x = p} {y = p / s + 1} tpos).1 (rw mul_comm u) in
    let w : p / s ≤ p / t = (le-div_iff_mul-le tpos).1 (le_trans (mul-le-mul_left (p / s) b) (div-mul-le_self p s)) in
    omega arith

-- where s fails, so does every gap down to the next one to try
pub next_gap_skips : (spec : Spec) (s t : ℕ) → 0 < s → next_gap spec.demand s < t → t ≤ s → fits spec s ≡ false → fits spec t ≡ false
next_gap_skips spec s t pos a b e = by_cases (fits spec t) refl
  where
    by_cases : (x : Bool) → fits spec t ≡ x → x ≡ false
    by_cases true q =
        let y = fits_longer spec t s (omega arith) b (same_count spec.demand s t pos a b) q in
        cc
    by_cases false q = refl
