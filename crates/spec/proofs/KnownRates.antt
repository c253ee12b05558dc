-- Both rates of an accepted specification with one range of gaps, and their limits.
use Prim.Native.Nat.{ℕ, ◌≤◌}
use native.Mathlib.Omega.{arith}
use mathlib.Core.Path.{◌≡◌, refl}
use mathlib.Core.Bool.{true, and-eq-true_iff}
use Rattle.std.specs.Prelude.{Option, None, Some, Ok}
use Rattle.spec.specs.declared.Rate.{Rate}
use Rattle.spec.specs.declared.Spec.{Spec}
use Rattle.spec.specs.declared.Rates.{Rates}
use Rattle.spec.specs.Limits.{rate_of, IsAccepted, rate_limits}
use Rattle.spec.specs.Rates.{rates_from, both_rates, started}
use Rattle.spec.proofs.Facts.{facts, leb_iff}
use Rattle.spec.proofs.GoingOn.{started_both, one_range_iff}

pub record Known (s : Spec) (q : Rates) : Type 0 where
  pub start : started s ≡ Ok q
  pub accepted : IsAccepted s
  pub both : both_rates s ≡ Ok q
  pub supply : s.supply ≡ Some (rate_of q.b q.r)
  pub demand : s.demand ≡ Some (rate_of q.l q.p)
  pub budget : (1 ≤ q.b) × (q.b ≤ 20000)
  pub supply_minutes : (1 ≤ q.r) × (q.r ≤ 20160)
  pub least : (1 ≤ q.l) × (q.l ≤ 20000)
  pub demand_minutes : (1 ≤ q.p) × (q.p ≤ 20160)

pub present_limits : {n m : ℕ} {x : Option Rate} → x ≡ Some (rate_of n m) → rate_limits x ≡ true → (1 ≤ n) × (n ≤ 20000) × (1 ≤ m) × (m ≤ 20160)
unfolding rate_limits
present_limits e l = let h = simp (and-eq-true_iff, leb_iff) at (rw e at l) in (omega arith, omega arith, omega arith, omega arith)

rates_present : (x y : Option Rate) (q : Rates) → rates_from x y ≡ Ok q → (x ≡ Some (rate_of q.b q.r)) × (y ≡ Some (rate_of q.l q.p))
unfolding rates_from
rates_present None y q e = absurd (let z : ◌≡◌ {A = ℕ} 0 1 = cc in omega arith)
rates_present (Some x) None q e = absurd (let z : ◌≡◌ {A = ℕ} 0 1 = cc in omega arith)
rates_present (Some x) (Some y) q e =
    let same : record { b = x.records; r = x.minutes; l = y.records; p = y.minutes } ≡ q = cc in
    rw (← same) (refl, refl)

pub known : (s : Spec) (q : Rates) → started s ≡ Ok q → Known s q
unfolding both_rates
known s q e =
    let both = started_both s q e in
    let a = ((one_range_iff s).0 both.0).0 in
    let h = rates_present s.supply s.demand q both.1 in
    let f = facts s a in
    let x = present_limits h.0 f.supply in
    let y = present_limits h.1 f.demand in
    record {
      start = e;
      accepted = a;
      both = both.1;
      supply = h.0;
      demand = h.1;
      budget = (x.0, x.1);
      supply_minutes = (x.2, x.3);
      least = (y.0, y.1);
      demand_minutes = (y.2, y.3);
    }
