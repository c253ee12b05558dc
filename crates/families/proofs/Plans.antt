-- A schedule for k reports that exists has sizes and gaps in the specification's ranges: k × smin ≤ π ≤ k × smax and
-- k × dmin ≤ δ ≤ k × dmax. So its plan is proper, and its endless run keeps the first two rules.
use Prim.Native.Nat.{ℕ, ◌*◌, ◌≤◌}
use native.Mathlib.Omega.{arith}
use native.Mathlib.Nat.{le_trans, le-max_left, max-le, min-le_left, le-min, mul-le-mul_left, mul-le-mul_right, mul_comm, le-mul_of_pos_right, zero-mul}
use mathlib.Core.Path.{◌≡◌, refl, sym}
use mathlib.Core.Logic.{inl, ⊎_elim}
use mathlib.Core.Bool.{true, false, and-eq-true_iff}
use Rattle.std.specs.Prelude.{Ok, Err}
use Rattle.spec.specs.declared.Spec.{Spec}
use Rattle.spec.specs.declared.Rates.{Rates}
use Rattle.spec.specs.Limits.{size_allowed, gap_allowed}
use Rattle.spec.proofs.KnownRates.{Known, known}
use Rattle.spec.proofs.Facts.{Facts, facts, leb_iff, size_allowed_iff, gap_allowed_iff}
use Rattle.numbers.proofs.Cases.{lt_cases}
use Rattle.plan.specs.declared.Kind.TheVariants.{WellFormed}
use Rattle.plan.specs.declared.Plan.{Plan}
use Rattle.plan.specs.Plans.{proper, run, kind_run, plan_of}
use Rattle.plan.proofs.Proper.{proper_kind}
use Rattle.plan.proofs.WellFormed.{size_range, gap_range}
use Rattle.families.specs.declared.Family.{Family}
use Rattle.families.specs.declared.Family.TheVariants.{MinimumDemand, MaximumSupply}
use Rattle.families.specs.declared.Planning.{Planning}
use Rattle.families.specs.Families.{exists, plan_for, supply_figure, figure_of, schedule_with, scheduled, planned}

-- what is scheduled, by whether it exists
module _ (f : Family) (s : Spec) (q : Rates) (k : ℕ) where
  pub scheduled_none : exists f s q k ≡ false → scheduled f s q k ≡ Err 6
  unfolding scheduled
  scheduled_none e = rw (scheduled, e)

  pub scheduled_some : exists f s q k ≡ true → scheduled f s q k ≡ Ok (schedule_with f s q k)
  unfolding scheduled
  scheduled_some e = rw (scheduled, e)

-- the figure of a proper plan
pub figure_proper : (f : Family) (q : Rates) (plan : Plan) → proper plan ≡ true → figure_of f q plan ≡ supply_figure f q plan
unfolding figure_of
figure_proper f q plan ok = rw ok

-- the numbers of a specification of which schedules are made
pub planning_facts : (p : Planning) → Facts p.spec
planning_facts p = facts p.spec (known p.spec p.rates p.begun).accepted

-- averages in range, and few reports
pub record InRange (s : Spec) (k π δ : ℕ) : Type 0 where
  pub some : 1 ≤ k
  pub few : k ≤ 20160
  pub slow : k * s.smin ≤ π
  pub fast : π ≤ k * s.smax
  pub large : k * s.dmin ≤ δ
  pub small : δ ≤ k * s.dmax

-- k is not 0 where k × y reaches 1
some_of : (k y x : ℕ) → 1 ≤ x → x ≤ k * y → 1 ≤ k
some_of k y x a b =
    ⊎_elim (λ z. absurd (let e : k ≡ 0 = omega arith in let n : k * y ≡ 0 = rw e (zero-mul y) in omega arith)) (λ z. z) (lt_cases k 1)

module _ (s : Spec) (q : Rates) (n : Known s q) where
  pub in_range : (f : Family) (k : ℕ) → exists f s q k ≡ true → InRange s k (plan_for f s q k).period (plan_for f s q k).total
  unfolding exists plan_for
  in_range MinimumDemand k e =
      let x = simp (and-eq-true_iff, leb_iff) at e in
      let f = facts s n.accepted in
      record {
        some = some_of k s.dmax q.l n.least.0 x.1;
        few = le_trans (le-mul_of_pos_right k f.gap_low) (le_trans x.0 n.demand_minutes.1);
        slow = le-min (mul-le-mul_left k f.gaps) x.0;
        fast = min-le_left _ _;
        large = le-max_left _ _;
        small = max-le (mul-le-mul_left k f.sizes) x.1;
      }
  in_range MaximumSupply k e =
      let x = simp (and-eq-true_iff, leb_iff) at e in
      let f = facts s n.accepted in
      record {
        some = some_of k s.smax q.r n.supply_minutes.0 x.0;
        few = le_trans (le-mul_of_pos_right k f.size_low) (omega (arith, n.budget, x.1));
        slow = le-max_left _ _;
        fast = max-le (mul-le-mul_left k f.gaps) x.0;
        large = le-min (mul-le-mul_left k f.sizes) x.1;
        small = min-le_left _ _;
      }

  -- a well-formed plan with averages in range is proper, and its sizes and gaps are in range
  module _ (k π δ : ℕ) (v : InRange s k π δ) where
    abbrev well : Plan
    well = plan_of WellFormed k π δ

    well_proper : proper well ≡ true
    well_proper =
        let t = facts s n.accepted in
        sym (proper_kind well
        (record {
          some = v.some;
          few = v.few;
          long = le_trans (le-mul_of_pos_right k t.gap_low) v.slow;
          short = le_trans v.fast (rw mul_comm (mul-le-mul_right k t.gap_high));
          full = le_trans (le-mul_of_pos_right k t.size_low) v.large;
          light = le_trans v.small (rw mul_comm (mul-le-mul_right k t.size_high));
        })
        refl)

    well_sizes : (i : ℕ) → size_allowed s ((run well).size i) ≡ true
    unfolding run kind_run
    well_sizes i = (size_allowed_iff s _).1 (size_range k v.some δ s.dmin s.dmax v.large v.small i)

    well_gaps : (i : ℕ) → gap_allowed s ((run well).gap i) ≡ true
    unfolding run kind_run
    well_gaps i = (gap_allowed_iff s _).1 (inl (gap_range k v.some π s.smin s.smax v.slow v.fast i))

  -- and so is that of either family
  plan_well : (f : Family) (k : ℕ) → plan_for f s q k ≡ plan_of WellFormed k (plan_for f s q k).period (plan_for f s q k).total
  unfolding plan_for
  plan_well MinimumDemand k = refl
  plan_well MaximumSupply k = refl

  pub plan_proper : (f : Family) (k : ℕ) → exists f s q k ≡ true → proper (plan_for f s q k) ≡ true
  plan_proper f k e = rw (plan_well f k) (well_proper k _ _ (in_range f k e))

  -- where there is a schedule, the figure of any plan is its own
  pub planned_is : (f : Family) (k : ℕ) → exists f s q k ≡ true → planned f s q k ≡ schedule_with f s q k
  unfolding planned schedule_with figure_of
  planned_is f k e = rw (plan_proper f k e)

  pub plan_sizes : (f : Family) (k : ℕ) → exists f s q k ≡ true → (i : ℕ) → size_allowed s ((run (plan_for f s q k)).size i) ≡ true
  plan_sizes f k e = rw (plan_well f k) (well_sizes k _ _ (in_range f k e))

  pub plan_gaps : (f : Family) (k : ℕ) → exists f s q k ≡ true → (i : ℕ) → gap_allowed s ((run (plan_for f s q k)).gap i) ≡ true
  plan_gaps f k e = rw (plan_well f k) (well_gaps k _ _ (in_range f k e))

pub plan_count : (f : Family) (s : Spec) (q : Rates) (k : ℕ) → (plan_for f s q k).count ≡ k
unfolding plan_for
plan_count MinimumDemand s q k = refl
plan_count MaximumSupply s q k = refl
