-- The number of the check with lateness against every choice of delays. Each of its tests decides between two things: where it passes, its
-- rule holds for every choice, and where it fails, some choice breaks it. The number says which tests passed, so its meaning follows test
-- by test.
use Prim.Native.Nat.{ℕ, ◌≤◌, ◌<◌}
use native.Mathlib.Omega.{arith}
use mathlib.Core.Path.{◌≡◌, refl, sym, ◌∙◌}
use mathlib.Core.Logic.{◌↔◌, ⊎_elim}
use mathlib.Core.List.{List}
use mathlib.Core.Bool.{Bool, true, false}
use lib.ListN.{length}
use Rattle.std.specs.Prelude.{Option}
use Rattle.numbers.proofs.All.{some_fails}
use Rattle.spec.specs.declared.Rate.{Rate}
use Rattle.spec.specs.declared.Spec.{Spec}
use Rattle.spec.specs.Limits.{IsAccepted, rate_limits, size_allowed}
use Rattle.spec.proofs.Facts.{facts}
use Rattle.spec.proofs.GoingOn.{none_or}
use Rattle.schedule.specs.Timed.{timed_stretch, timed_gap}
use Rattle.schedule.specs.Rules.{SizesAllowed, GapsAllowed, SupplyKept, DemandMet, TimedObeys, SizeBroken, GapBroken, TooFull, TooThin}
use Rattle.numbers.proofs.Tests.{not_both}
use Rattle.schedule.proofs.Rules.{not_kept, not_met}
use Rattle.lateness.specs.Delays.{EveryDelay, SomeDelay}
use Rattle.lateness.specs.Lateness.{late_gap_allowed, late_supply, late_demand, lateness_number}
use Rattle.lateness.proofs.Begins.{begins_0, begins_26, begins_iff, begins_26_iff}
use Rattle.lateness.proofs.EverySchedule.{on_time, gaps_hold, gap_breaks, later_gaps, supply_holds, supply_breaks, demand_holds, demand_breaks}
use Rattle.pairs.specs.declared.Pair.{Pair}
use Rattle.pairs.specs.Pairs.{count_in}
use Rattle.pairs.proofs.Counts.{count_in_true}
use Rattle.cycle.specs.Cycles.{pair_gap, pair_size, cycle_run}
use Rattle.cycle.specs.Check.{sizes_allowed, supply_kept, demand_met}
use Rattle.cycle.specs.LateCheck.{late_gaps_allowed, late_cycle_number, late_number}
use Rattle.cycle.proofs.Runs.{pair_gap_lem, pair_size_lem, each_gap, sizes_right, supply_right, demand_right}
use Rattle.cycle.proofs.Steps.{Said, said, count_right, gets_13, gets_14, gets_15, gets_16, gets_0, first_few}
use Rattle.cycle.proofs.CyclesPassed.{too_full, too_thin}
use Rattle.cycle.proofs.Numbers.{late_goes_on, late_stops}

-- a test that passes exactly where one thing holds, and fails exactly where another breaks it
record Decides (test : Bool) (Holds Breaks : Type 0) : Type 0 where
  passes : test ≡ true → Holds
  fails : test ≡ false → Breaks
  apart : Holds → Breaks → ⊥

module _ {Holds Breaks : Type 0} where
  passed : (test : Bool) → Decides test Holds Breaks → Holds → test ≡ true
  passed true d h = refl
  passed false d h = absurd (d.apart h (d.fails refl))

  failed : (test : Bool) → Decides test Holds Breaks → Breaks → test ≡ false
  failed true d h = absurd (d.apart (d.passes refl) h)
  failed false d h = refl

module _ (spec : Spec) (lateness : ℕ) (ps : List Pair) (some : 1 ≤ length ps) where
  gaps_decided : Decides (late_gaps_allowed spec lateness ps)
      (EveryDelay lateness (cycle_run ps) (λ t. GapsAllowed spec (timed_gap t)))
      (SomeDelay lateness (cycle_run ps) (λ t. GapBroken spec (timed_gap t)))
  unfolding late_gaps_allowed
  gaps_decided = record {
    passes = λ e. gaps_hold (cycle_run ps) lateness spec ((each_gap ps some (late_gap_allowed spec lateness)).0 e);
    fails = λ e.
        let k = some_fails (λ j. late_gap_allowed spec lateness (pair_gap ps j)) (length ps) e in
        gap_breaks (cycle_run ps) lateness spec k.0 (rw (pair_gap_lem ps k.0 k.1.0) k.1.1);
    apart = λ every broken. not_both _ (every broken.0 broken.1.0 broken.1.1.0) broken.1.1.1;
  }

  sizes_decided : Decides (sizes_allowed spec ps) (SizesAllowed spec (cycle_run ps).size) (SizeBroken spec (cycle_run ps).size)
  unfolding sizes_allowed
  sizes_decided = record {
    passes = (sizes_right ps some spec).0;
    fails = λ e.
        let k = some_fails (λ j. size_allowed spec (pair_size ps j)) (length ps) e in
        (k.0, rw (pair_size_lem ps k.0 k.1.0) k.1.1);
    apart = λ every broken. not_both _ (every broken.0) broken.1;
  }

  module _ (later : (i : ℕ) → 1 ≤ (cycle_run ps).gap i) where
    supply_decided : (rate : Option Rate) → rate_limits rate ≡ true → Decides (supply_kept (late_supply lateness rate) ps)
        (EveryDelay lateness (cycle_run ps) (λ t. SupplyKept rate (timed_stretch t)))
        (SomeDelay lateness (cycle_run ps) (λ t. TooFull rate (timed_stretch t)))
    supply_decided rate limits = record {
      passes = λ e. supply_holds (cycle_run ps) lateness later rate ((supply_right ps some later (late_supply lateness rate)).0 e);
      fails = λ e. supply_breaks (cycle_run ps) lateness later rate limits (too_full (late_supply lateness rate) ps e);
      apart = λ every broken. not_kept rate _ (every broken.0 broken.1.0) broken.1.1;
    }

    demand_decided : (rate : Option Rate) → Decides (demand_met (late_demand lateness rate) ps)
        (EveryDelay lateness (cycle_run ps) (λ t. DemandMet rate (timed_stretch t)))
        (SomeDelay lateness (cycle_run ps) (λ t. TooThin rate (timed_stretch t)))
    demand_decided rate = record {
      passes = λ e. demand_holds (cycle_run ps) lateness later rate ((demand_right ps some later (late_demand lateness rate)).0 e);
      fails = λ e. demand_breaks (cycle_run ps) lateness later rate (too_thin (late_demand lateness rate) ps e);
      apart = λ every broken. not_met rate _ (every broken.0 broken.1.0) broken.1.1;
    }

-- What each number says of a cycle of 1 to 512 pairs, for a lateness of at most 1,440 minutes and an accepted specification.
module _ (spec : Spec) (lateness : ℕ) (ps : List Pair) (accepted : IsAccepted spec) (few : lateness ≤ 1440) (some : 1 ≤ length ps) (most : length ps ≤ 512) where
  -- by the tests, the count's passed
  number_by : (n : ℕ) → n ≡ late_cycle_number spec lateness ps → late_number spec lateness ps ≡ n
  number_by n e = late_goes_on spec ps lateness (begins_0 spec lateness accepted few) ∙ sym e

  count : count_in (length ps) ≡ true
  count = count_right (length ps) some most

  late_said : Said (late_number spec lateness ps) (count_in (length ps)) (late_gaps_allowed spec lateness ps) (sizes_allowed spec ps)
      (supply_kept (late_supply lateness spec.supply) ps) (demand_met (late_demand lateness spec.demand) ps)
  unfolding late_cycle_number
  late_said = rw (late_goes_on spec ps lateness (begins_0 spec lateness accepted few)) (said (count_in (length ps)) _ _ _ _)

  abbrev GapsHold : Type 0
  GapsHold = EveryDelay lateness (cycle_run ps) (λ t. GapsAllowed spec (timed_gap t))

  abbrev SupplyHolds : Type 0
  SupplyHolds = EveryDelay lateness (cycle_run ps) (λ t. SupplyKept spec.supply (timed_stretch t))

  gaps : Decides (late_gaps_allowed spec lateness ps) GapsHold (SomeDelay lateness (cycle_run ps) (λ t. GapBroken spec (timed_gap t)))
  gaps = gaps_decided spec lateness ps some

  sizes : Decides (sizes_allowed spec ps) (SizesAllowed spec (cycle_run ps).size) (SizeBroken spec (cycle_run ps).size)
  sizes = sizes_decided spec lateness ps some

  -- the stretches of gaps that are all allowed
  module _ (allowed : late_gaps_allowed spec lateness ps ≡ true) where
    supply : Decides (supply_kept (late_supply lateness spec.supply) ps) SupplyHolds
        (SomeDelay lateness (cycle_run ps) (λ t. TooFull spec.supply (timed_stretch t)))
    supply = supply_decided spec lateness ps some (later_gaps (cycle_run ps) lateness spec accepted (gaps.passes allowed)) spec.supply (facts spec accepted).supply

    demand : Decides (demand_met (late_demand lateness spec.demand) ps)
        (EveryDelay lateness (cycle_run ps) (λ t. DemandMet spec.demand (timed_stretch t)))
        (SomeDelay lateness (cycle_run ps) (λ t. TooThin spec.demand (timed_stretch t)))
    demand = demand_decided spec lateness ps some (later_gaps (cycle_run ps) lateness spec accepted (gaps.passes allowed)) spec.demand

  pub late_gap : (late_number spec lateness ps ≡ 13) ↔ SomeDelay lateness (cycle_run ps) (λ t. GapBroken spec (timed_gap t))
  unfolding late_cycle_number
  late_gap = (λ e. gaps.fails (late_said.is_13 e), λ h. number_by 13 (gets_13 _ _ _ _ _ count (failed _ gaps h)))

  pub late_size : (late_number spec lateness ps ≡ 14) ↔ (GapsHold × SizeBroken spec (cycle_run ps).size)
  unfolding late_cycle_number
  late_size = (
    λ e. let t = late_said.is_14 e in (gaps.passes t.0, sizes.fails t.1),
    λ h. number_by 14 (gets_14 _ _ _ _ _ count (passed _ gaps h.0) (failed _ sizes h.1)),
  )

  pub late_full : (late_number spec lateness ps ≡ 15)
      ↔ (GapsHold × SizesAllowed spec (cycle_run ps).size × SomeDelay lateness (cycle_run ps) (λ t. TooFull spec.supply (timed_stretch t)))
  unfolding late_cycle_number
  late_full = (
    λ e. let t = late_said.is_15 e in (gaps.passes t.0, sizes.passes t.1, (supply t.0).fails t.2),
    λ h.
        let g = passed _ gaps h.0 in
        number_by 15 (gets_15 _ _ _ _ _ count g (passed _ sizes h.1) (failed _ (supply g) h.2)),
  )

  pub late_thin : (late_number spec lateness ps ≡ 16)
      ↔ (GapsHold × SizesAllowed spec (cycle_run ps).size × SupplyHolds × SomeDelay lateness (cycle_run ps) (λ t. TooThin spec.demand (timed_stretch t)))
  unfolding late_cycle_number
  late_thin = (
    λ e. let t = late_said.is_16 e in (gaps.passes t.0, sizes.passes t.1, (supply t.0).passes t.2, (demand t.0).fails t.3),
    λ h.
        let g = passed _ gaps h.0 in
        number_by 16 (gets_16 _ _ _ _ _ count g (passed _ sizes h.1) (passed _ (supply g) h.2) (failed _ (demand g) h.3)),
  )

  pub late_passed : (late_number spec lateness ps ≡ 0) ↔ EveryDelay lateness (cycle_run ps) (TimedObeys spec)
  unfolding late_cycle_number
  late_passed = (
    λ e delay h.
        let t = late_said.is_0 e in
        record {
          sizes = sizes.passes t.2;
          gaps = gaps.passes t.1 delay h;
          supply = (supply t.1).passes t.3 delay h;
          demand = (demand t.1).passes t.4 delay h;
        },
    λ obeys.
        let g = passed _ gaps (λ delay h. (obeys delay h).gaps) in
        let d = passed _ sizes (obeys (λ i. 0) (on_time lateness)).sizes in
        let b = passed _ (supply g) (λ delay h. (obeys delay h).supply) in
        let l = passed _ (demand g) (λ delay h. (obeys delay h).demand) in
        number_by 0 (gets_0 _ _ _ _ _ count g d b l),
  )

module _ (spec : Spec) (lateness : ℕ) (ps : List Pair) where
  -- 26 is no other test's number
  pub too_late : (late_number spec lateness ps ≡ 26) ↔ (IsAccepted spec × (1440 < lateness))
  unfolding late_cycle_number
  too_late = (
    λ e.
        ⊎_elim
        (λ goes.
        absurd
        (let n = sym (late_goes_on spec ps lateness goes) ∙ e in
        omega (arith, first_few (count_in (length ps)) (late_gaps_allowed spec lateness ps) (sizes_allowed spec ps) (supply_kept (late_supply lateness spec.supply) ps) (demand_met (late_demand lateness spec.demand) ps))))
        (λ stops. (begins_26_iff spec lateness).0 (sym (late_stops spec ps lateness stops) ∙ e))
        (none_or (lateness_number spec lateness)),
    λ h.
        let n = begins_26 spec lateness h.0 h.1 in
        late_stops spec ps lateness (λ e. omega arith) ∙ n,
  )

  -- only an accepted specification passes a cycle, only for a lateness of at most 1,440, and only a cycle of 1 to 512 pairs
  pub passed_late : late_number spec lateness ps ≡ 0 → IsAccepted spec × (lateness ≤ 1440) × (1 ≤ length ps) × (length ps ≤ 512)
  unfolding late_cycle_number
  passed_late e =
      ⊎_elim
      (λ goes.
      let n = sym (late_goes_on spec ps lateness goes) ∙ e in
      let k = count_in_true (length ps) ((said (count_in (length ps)) _ _ _ _).is_0 n).0 in
      let b = (begins_iff spec lateness).0 goes in
      (b.0, b.1, k.0, k.1))
      (λ stops. absurd (stops (sym (late_stops spec ps lateness stops) ∙ e)))
      (none_or (lateness_number spec lateness))

-- fewer minutes late are among the choices of more
pub late_less : (spec : Spec) (less more : ℕ) (ps : List Pair) → less ≤ more → late_number spec more ps ≡ 0 → late_number spec less ps ≡ 0
late_less spec less more ps h e =
    let k = passed_late spec more ps e in
    let obeys = (late_passed spec more ps k.0 k.1 k.2 k.3).0 e in
    (late_passed spec less ps k.0 (omega (arith, k.1)) k.2 k.3).1 (λ delay within. obeys delay (λ i. omega (arith, within i)))
