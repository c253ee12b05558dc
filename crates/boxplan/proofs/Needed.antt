-- Where q pairs will do at a gap, the even plan's arithmetic allows it: of q reports with p records, m in a row hold m × p / q, which is at least L
-- and m × dmin, and at most m × dmax; n hold n × p / q, which is at most B. So q cancels, and a gap that doesn't fit needs no count tried.
use Prim.Native.Nat.{ℕ, ◌*◌, ◌≤◌, ◌<◌, max}
use native.Mathlib.Omega.{arith}
use native.Mathlib.Nat.{le_trans, le_of_mul-le-mul_left, mul_left_comm, one-mul, mul-le-mul_left}
use mathlib.Core.Path.{◌≡◌, refl}
use mathlib.Core.Logic.{⊎_elim}
use mathlib.Core.Bool.{true, false, and-eq-true_iff}
use borrow.Author.Tests.{leb-true, le-leb}
use Rattle.std.specs.Prelude.{Option, None, Some}
use Rattle.numbers.specs.Numbers.{ceil}
use Rattle.numbers.proofs.Cases.{lt_cases}
use Rattle.numbers.proofs.Tests.{not_both}
use Rattle.spec.specs.declared.Rate.{Rate}
use Rattle.spec.specs.declared.Spec.{Spec}
use Rattle.even.specs.Even.{count_at, total_of, demand_fits, supply_fits, fits}
use Rattle.boxplan.specs.BoxPlan.{most_at, supply_holds, fewest_pairs}
use Rattle.boxplan.specs.Search.{plan_if}
use Rattle.boxplan.proofs.Search.{loads_fit, not_loaded}
use Rattle.boxplan.proofs.PairsFit.{Shares, Fitting, records_at, fitting_iff, shared}

module _ (q m p : ℕ) (some : 0 < q) where
  -- the even plan's δ for m reports
  total_most : (r : Option Rate) (dmin g : ℕ) → m ≡ count_at r g → q * dmin ≤ p → Shares r m q p → q * total_of r dmin m ≤ m * p
  unfolding count_at total_of
  total_most None dmin g is low share = rw (is, one-mul) low
  total_most (Some x) dmin g is low share =
      let full : q * (m * dmin) ≤ m * p = rw (mul_left_comm q m dmin) (mul-le-mul_left m low) in
      ⊎_elim
      (λ h. let z : max (m * dmin) x.records ≡ x.records = omega arith in rw z share)
      (λ h. let z : max (m * dmin) x.records ≡ m * dmin = omega arith in rw z full)
      (lt_cases (m * dmin) x.records)

  demand_allows : (r : Option Rate) (dmax : ℕ) → p ≤ q * dmax → Shares r m q p → demand_fits r dmax m ≡ true
  unfolding demand_fits
  demand_allows None dmax high share = refl
  demand_allows (Some x) dmax high share =
      le-leb _ _ (le_of_mul-le-mul_left (le_trans share (rw (mul_left_comm q m dmax) (mul-le-mul_left m high))) some)

  supply_allows : (r : Option Rate) (g δ : ℕ) → supply_holds r (most_at r g) q p ≡ true → q * δ ≤ m * p → supply_fits r g m δ ≡ true
  unfolding supply_holds most_at supply_fits
  supply_allows None g δ e total = refl
  supply_allows (Some x) g δ e total =
      let n = ceil x.minutes g in
      let fewer : n * (q * δ) ≤ n * (m * p) = mul-le-mul_left n total in
      let most : m * (n * p) ≤ m * (q * x.records) = mul-le-mul_left m (leb-true _ _ e) in
      le-leb _ _ (le_of_mul-le-mul_left {k = q} (rw (mul_left_comm q n δ, mul_left_comm q m x.records) (le_trans fewer (rw (mul_left_comm n m p) most))) some)

fit_allows : (s : Spec) (g q : ℕ) → 0 < q → Fitting s g q → fits s g ≡ true
unfolding fits
fit_allows s g q some fit =
    let m = count_at s.demand g in
    let p = records_at s g q in
    let low = shared s g q fit in
    (and-eq-true_iff _ _).1 (
      demand_allows q m p some s.demand s.dmax fit.high low.1,
      supply_allows q m p some s.supply g _ fit.supply (total_most q m p some s.demand s.dmin g refl low.0 low.1),
    )

pub not_allowed : (s : Spec) (g : ℕ) → fits s g ≡ false → None ≡ plan_if s g
not_allowed s g e =
    not_loaded s g (λ h.
    let k = loads_fit s g h in
    not_both (fits s g) (fit_allows s g (fewest_pairs s g) k.1 ((fitting_iff s g _).0 k.0)) e)
