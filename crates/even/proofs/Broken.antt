-- Any endless list of sizes at one gap, repeating or not. Where j × k reports in a row, report 0 not among them, hold less than j × δ, one of the j
-- rows of k holds less than δ: so P minutes hold less than L, or a size is below dmin. Where the gap does not fit, the reports from report 1 on
-- break a rule. For want of demand: k of them hold more than k × dmax, and a size is above dmax, or less than L. For want of supply: k × n of
-- them hold more than k × B, and n in a row more than B, or less than n × δ, as above.
-- Report 0 is left out, since the P minutes from minute 0 on may have one report more than the k that all others have.
use Prim.Native.Nat.{ℕ, ◌+◌, ◌-◌, ◌*◌, ◌/◌, ◌≤◌, ◌<◌}
use native.Mathlib.Omega.{arith}
use native.Mathlib.Nat.{mul_comm, mul-one}
use mathlib.Core.Path.{◌≡◌, refl}
use mathlib.Core.Logic.{◌⊎◌, inl, inr, ⊎_elim}
use mathlib.Core.Bool.{Bool, true, false, ◌&&◌}
use borrow.Author.Tests.{leb-false}
use Rattle.numbers.specs.Numbers.{ceil}
use Rattle.numbers.proofs.Cases.{lt_cases}
use Rattle.std.specs.Prelude.{Option, None, Some}
use Rattle.spec.specs.declared.Rate.{Rate}
use Rattle.spec.specs.declared.Spec.{Spec}
use Rattle.spec.proofs.Facts.{size_below, size_above, gap_allowed_pos}
use Rattle.schedule.specs.Schedules.{stretch}
use Rattle.schedule.specs.Rules.{Obeys, SizeBroken, TooFull, TooThin}
use Rattle.schedule.proofs.Sums.{block, block_one, one_fuller, one_thinner}
use Rattle.schedule.proofs.Rules.{breaks_not_obeys}
use Rattle.even.specs.Even.{count_at, total_of, demand_fits, supply_fits, fits, evenly}
use Rattle.even.specs.Statements.{ArithmeticRight}
use Rattle.even.proofs.OneGap.{stretch_at_report, stretch_after_report}
use Rattle.even.proofs.EvenFits.{total_enough, total_least, sizes_at, fits_obeys}

one_of_two : (b c : Bool) → b && c ≡ false → (b ≡ false) ⊎ (c ≡ false)
one_of_two true c e = inr e
one_of_two false c e = inl refl

module _ (s : Spec) (g : ℕ) (pos : 0 < g) (f : ℕ → ℕ) where
  abbrev held : ℕ → ℕ → ℕ
  held = stretch (evenly g f)

  -- a rule other than that of the gaps is broken
  abbrev Broken : (supply demand : Option Rate) → Type 0
  Broken supply demand = SizeBroken s f ⊎ (TooFull supply held ⊎ TooThin demand held)

  -- m reports in a row hold less than m × dmin, or more than m × dmax
  some_below : (m i : ℕ) → block f i m < m * s.dmin → SizeBroken s f
  some_below m i few = let one = one_thinner f s.dmin 1 m i (rw mul-one few) in (i + one.0, size_below s _ (rw block_one at one.1))

  some_above : (m i : ℕ) → m * s.dmax < block f i m → SizeBroken s f
  some_above m i many = let one = one_fuller f s.dmax 1 m i (rw mul-one many) in (one.0, size_above s _ (rw block_one at one.1))

  -- k reports in a row that don't include report 0 hold less than δ
  row_thin : (q r : Option Rate) (i : ℕ) → 1 ≤ i → block f i (count_at r g) < total_of r s.dmin (count_at r g) → Broken q r
  unfolding count_at total_of
  row_thin q None i some few = inl (i, size_below s (f i) (rw block_one at few))
  row_thin q (Some x) i some few =
      let p = x.minutes in
      let m = p / g in
      let e : i - 1 + 1 ≡ i = omega arith in
      let after : held ((i - 1) * g + 1) p ≡ block f i m = rw e at (stretch_after_report g pos f (i - 1) p) in
      elim (lt_cases (block f i m) x.records) [
        | inl thin ↦ inr (inr ((i - 1) * g + 1, rw after thin))
        | inr enough ↦ elim (lt_cases (block f i m) (m * s.dmin)) [
          | inl below ↦ inl (some_below m i below)
          | inr full ↦ absurd (omega (arith, total_least x s.dmin m (block f i m) full enough))
        ]
      ]

  -- j × k such reports hold less than j × δ
  rows_thin : (q r : Option Rate) (j i : ℕ) → 1 ≤ i → block f i (j * count_at r g) < j * total_of r s.dmin (count_at r g) → Broken q r
  rows_thin q r j i some few =
      let one = one_thinner f (total_of r s.dmin (count_at r g)) (count_at r g) j i few in
      row_thin q r (i + one.0) (omega arith) one.1

  -- so in a list that obeys they hold no less
  pub rows_least : Obeys s (evenly g f) → (j i : ℕ) → 1 ≤ i
      → j * total_of s.demand s.dmin (count_at s.demand g) ≤ block f i (j * count_at s.demand g)
  rows_least obeys j i some =
      let k = count_at s.demand g in
      elim (lt_cases (block f i (j * k)) (j * total_of s.demand s.dmin k)) [
        | inl few ↦ absurd (breaks_not_obeys s (evenly g f) (inr (rows_thin s.supply s.demand j i some few)) obeys)
        | inr enough ↦ enough
      ]

  demand_unfit : (q r : Option Rate) → demand_fits r s.dmax (count_at r g) ≡ false → Broken q r
  unfolding demand_fits count_at
  demand_unfit q None e = cc
  demand_unfit q (Some x) e =
      let m = x.minutes / g in
      let unfit : m * s.dmax < x.records = leb-false _ _ e in
      elim (lt_cases (m * s.dmax) (block f 1 m)) [
        | inl many ↦ inl (some_above m 1 many)
        | inr few ↦ row_thin q (Some x) 1 (omega arith) (omega (arith, total_enough x s.dmin m))
      ]

  supply_unfit : (q r : Option Rate) → supply_fits q g (count_at r g) (total_of r s.dmin (count_at r g)) ≡ false → Broken q r
  unfolding supply_fits
  supply_unfit None r e = cc
  supply_unfit (Some x) r e =
      let b = x.records in
      let w = x.minutes in
      let m = count_at r g in
      let n = ceil w g in
      let unfit : m * b < n * total_of r s.dmin m = leb-false _ _ e in
      elim (lt_cases (m * b) (block f 1 (m * n))) [
        | inl many ↦ let one = one_fuller f b n m 1 many in inr (inl (one.0 * g, rw (stretch_at_report g pos f one.0 w) one.1))
        | inr few ↦ rows_thin (Some x) r n 1 (omega arith) (rw (mul_comm n m) (omega arith))
      ]

  pub unfit_breaks : fits s g ≡ false → Broken s.supply s.demand
  unfolding fits
  unfit_breaks e = ⊎_elim (demand_unfit s.supply s.demand) (supply_unfit s.supply s.demand) (one_of_two _ _ e)

-- So at an allowed gap the arithmetic of `fits` says whether an endless list of sizes obeys.
pub arithmetic_right : ArithmeticRight
arithmetic_right s g ok allowed = (λ e. (sizes_at s g, fits_obeys s g ok allowed e), λ (f, obeys). by_cases f obeys (fits s g) refl)
  where
    by_cases : (f : ℕ → ℕ) → Obeys s (evenly g f) → (b : Bool) → fits s g ≡ b → b ≡ true
    by_cases f obeys true e = refl
    by_cases f obeys false e = absurd (breaks_not_obeys s (evenly g f) (inr (unfit_breaks s g (gap_allowed_pos s g ok allowed) f e)) obeys)
