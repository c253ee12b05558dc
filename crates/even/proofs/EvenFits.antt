-- At an allowed gap that fits an endless list of sizes obeys the rules: the even sizes, of which n neighbours hold about n × δ / m.
use Prim.Native.Nat.{ℕ, ◌+◌, ◌*◌, ◌≤◌, ◌<◌}
use native.Mathlib.Omega.{arith}
use native.Mathlib.Nat.{le_trans, zero-mul, le-max_left, le-max_right, max-le, mul-le-mul_left}
use mathlib.Core.Path.{◌≡◌}
use mathlib.Core.Bool.{true, and-eq-true_iff}
use borrow.Author.Tests.{leb-true}
use Rattle.std.specs.Prelude.{Option, None, Some}
use Rattle.spec.specs.declared.Rate.{Rate}
use Rattle.spec.specs.declared.Spec.{Spec}
use Rattle.spec.specs.Limits.{rate_limits, IsAccepted, gap_allowed}
use Rattle.spec.proofs.Facts.{facts, leb_iff, size_allowed_iff, gap_allowed_pos}
use Rattle.schedule.specs.Schedules.{stretch}
use Rattle.schedule.specs.Rules.{Obeys, SupplyKept, DemandMet}
use Rattle.schedule.proofs.Sums.{block_part}
use Rattle.plan.specs.Plans.{even_size}
use Rattle.plan.proofs.EvenSizes.{even_block_most, even_block_least, even_size_most, even_size_least}
use Rattle.even.specs.Even.{count_at, total_of, demand_fits, supply_fits, fits, evenly}
use Rattle.numbers.specs.Numbers.{ceil}
use Rattle.numbers.proofs.Ceilings.{ceil_add_most, ceil_add_least}
use Rattle.even.proofs.OneGap.{even_stretch}

-- k and δ where there is a demand rate. Any P minutes have k reports.
count_fewest : (x : Rate) (g : ℕ) → 0 < g → (a : ℕ) → ceil a g + count_at (Some x) g ≤ ceil (a + x.minutes) g
unfolding count_at
count_fewest x g pos a = ceil_add_least g pos a x.minutes

-- δ is the least number that is neither below k × dmin nor below L
module _ (x : Rate) (dmin m : ℕ) where
  total_full : m * dmin ≤ total_of (Some x) dmin m
  unfolding total_of
  total_full = le-max_left _ _

  pub total_enough : x.records ≤ total_of (Some x) dmin m
  unfolding total_of
  total_enough = le-max_right _ _

  pub total_least : (y : ℕ) → m * dmin ≤ y → x.records ≤ y → total_of (Some x) dmin m ≤ y
  unfolding total_of
  total_least y full enough = max-le full enough

-- m reports between dmin and dmax can hold δ
pub record Holds (m δ dmin dmax : ℕ) : Type 0 where
  pub some : 0 < m
  pub low : m * dmin ≤ δ
  pub high : δ ≤ m * dmax

module _ (g : ℕ) (pos : 0 < g) where
  holds : (r : Option Rate) (dmin dmax : ℕ) → rate_limits r ≡ true → dmin ≤ dmax → demand_fits r dmax (count_at r g) ≡ true
      → Holds (count_at r g) (total_of r dmin (count_at r g)) dmin dmax
  unfolding count_at total_of demand_fits rate_limits
  holds None dmin dmax c h e = record { some = omega arith; low = omega arith; high = omega arith }
  holds (Some x) dmin dmax c h e =
      let limits = simp (and-eq-true_iff, leb_iff) at c in
      let m = count_at (Some x) g in
      let can : x.records ≤ m * dmax = leb-true _ _ e in
      let some : ¬ (m ≡ 0) = λ z. let none = rw (z, zero-mul) at can in omega arith in
      record { some = omega arith; low = total_full x dmin m; high = total_least x dmin m (m * dmax) (mul-le-mul_left m h) can }

  pub supply_kept : (r : Option Rate) (m δ : ℕ) → 0 < m → supply_fits r g m δ ≡ true → SupplyKept r (stretch (evenly g (even_size m δ)))
  unfolding supply_fits
  supply_kept None m δ h e = tt
  supply_kept (Some x) m δ h e = λ a.
      let r = x.minutes in
      rw (even_stretch g pos (even_size m δ) a r)
      (le_trans (block_part (even_size m δ) (ceil a g) _ (ceil r g) (omega (arith, ceil_add_most g pos a r)))
      (even_block_most m δ h x.records (ceil a g) (ceil r g) (leb-true _ _ e)))

  -- where q reports in a row hold t, and q × L is at most k × t, any k hold L
  pub shared_met : (x : Rate) (q t : ℕ) → 0 < q → q * x.records ≤ count_at (Some x) g * t → DemandMet (Some x) (stretch (evenly g (even_size q t)))
  shared_met x q t some h = λ a.
      let k = count_at (Some x) g in
      rw (even_stretch g pos (even_size q t) a x.minutes)
      (le_trans (even_block_least q t some x.records (ceil a g) k h)
      (block_part (even_size q t) (ceil a g) k _ (omega (arith, count_fewest x g pos a))))

  demand_met : (r : Option Rate) (dmin : ℕ) → 0 < count_at r g → DemandMet r (stretch (evenly g (even_size (count_at r g) (total_of r dmin (count_at r g)))))
  demand_met None dmin h = tt
  demand_met (Some x) dmin h =
      let m = count_at (Some x) g in
      shared_met x m (total_of (Some x) dmin m) h (mul-le-mul_left m (total_enough x dmin m))

-- the even plan's sizes at a gap g
abbrev pub sizes_at : Spec → ℕ → ℕ → ℕ
sizes_at s g = even_size (count_at s.demand g) (total_of s.demand s.dmin (count_at s.demand g))

module _ (s : Spec) (g : ℕ) (ok : IsAccepted s) where
  fits_parts : fits s g ≡ true
      → (demand_fits s.demand s.dmax (count_at s.demand g) ≡ true)
      × (supply_fits s.supply g (count_at s.demand g) (total_of s.demand s.dmin (count_at s.demand g)) ≡ true)
  unfolding fits
  fits_parts e = (and-eq-true_iff _ _).0 e

  -- the even plan's numbers at a gap that fits
  pub fits_holds : 0 < g → fits s g ≡ true
      → Holds (count_at s.demand g) (total_of s.demand s.dmin (count_at s.demand g)) s.dmin s.dmax
  fits_holds pos e =
      let k = facts s ok in
      holds g pos s.demand s.dmin s.dmax k.demand k.sizes (fits_parts e).0

  pub fits_obeys : gap_allowed s g ≡ true → fits s g ≡ true → Obeys s (evenly g (sizes_at s g))
  fits_obeys allowed e =
      let pos : 0 < g = gap_allowed_pos s g ok allowed in
      let z = fits_holds pos e in
      record {
        sizes = λ i.
            (size_allowed_iff s _).1
            (even_size_least _ _ z.some s.dmin i z.low, even_size_most _ _ z.some s.dmax i z.high);
        gaps = λ i. allowed;
        supply = supply_kept g pos s.supply _ _ z.some (fits_parts e).1;
        demand = demand_met g pos s.demand s.dmin z.some;
      }
