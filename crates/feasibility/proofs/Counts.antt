-- The numbers of reports with a schedule are those from the first count to the last, and of a consistent specification there are some, of
-- either family: condition 5 says that ⌈L/dmax⌉ reports, the first that reach L, fit P, and condition 4 that ⌈R/smax⌉, the first that
-- reach R, fit B.
use Prim.Native.Nat.{ℕ, ◌≤◌}
use native.Mathlib.Omega.{arith}
use native.Mathlib.Nat.{le-div_iff_mul-le, mul_comm}
use mathlib.Core.Path.{◌≡◌}
use mathlib.Core.Logic.{◌↔◌}
use mathlib.Core.Bool.{true, and-eq-true_iff}
use Rattle.numbers.specs.Numbers.{ceil}
use Rattle.numbers.proofs.Ceilings.{ceil_le_iff}
use Rattle.std.specs.Prelude.{Ok}
use Rattle.spec.specs.declared.Spec.{Spec}
use Rattle.spec.specs.declared.Rates.{Rates}
use Rattle.spec.proofs.Facts.{facts, leb_iff}
use Rattle.spec.proofs.KnownRates.{Known}
use Rattle.consistency.specs.Consistency.{consistency_of}
use Rattle.consistency.proofs.Conditions.{fourth_holds, fifth_holds}
use Rattle.families.specs.declared.Family.{Family}
use Rattle.families.specs.declared.Family.TheVariants.{MinimumDemand, MaximumSupply}
use Rattle.families.specs.Families.{exists}
use Rattle.feasibility.specs.Test.{first_count, last_count}

module _ (s : Spec) (q : Rates) (n : Known s q) where
  pub exists_iff : (f : Family) (k : ℕ) → (exists f s q k ≡ true) ↔ ((first_count f s q ≤ k) × (k ≤ last_count f s q))
  unfolding exists first_count last_count
  exists_iff MinimumDemand k =
      let t = facts s n.accepted in
      let first = ceil_le_iff q.l s.dmax k (omega arith) in
      let last = le-div_iff_mul-le {k = s.smin} {x = k} {y = q.p} t.gap_low in (
        λ e. let x = simp (and-eq-true_iff, leb_iff) at e in (first.1 x.1, last.1 x.0),
        λ h. simp (and-eq-true_iff, leb_iff) (last.0 h.1, first.0 h.0),
      )
  exists_iff MaximumSupply k =
      let t = facts s n.accepted in
      let first = ceil_le_iff q.r s.smax k (omega arith) in
      let last = le-div_iff_mul-le {k = s.dmin} {x = k} {y = q.b} t.size_low in (
        λ e. let x = simp (and-eq-true_iff, leb_iff) at e in (first.1 x.0, last.1 x.1),
        λ h. simp (and-eq-true_iff, leb_iff) (first.0 h.0, last.0 h.1),
      )

  pub some_count : consistency_of s ≡ Ok tt → (f : Family) → first_count f s q ≤ last_count f s q
  unfolding first_count last_count
  some_count h MinimumDemand = fifth_holds s q.l q.p h n.demand
  some_count h MaximumSupply =
      (le-div_iff_mul-le {k = s.dmin} {x = ceil q.r s.smax} {y = q.b} (facts s n.accepted).size_low).1
      (rw mul_comm (fourth_holds s q.b q.r h n.supply))
