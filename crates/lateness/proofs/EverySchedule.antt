-- Every schedule with late reports. Of each rule: where planned minutes meet what they must, it holds for every choice of delays, and where
-- they do not, some choice breaks it. So a schedule obeys the four rules however its reports are delayed exactly when it obeys, on
-- time, those that planned minutes must meet.
use Prim.Native.Nat.{ℕ, ◌+◌, ◌-◌, ◌*◌, ◌≤◌, ◌<◌}
use native.Mathlib.Omega.{arith}
use native.Mathlib.Nat.{le_trans}
use mathlib.Core.Path.{◌≡◌, sym, ◌∙◌}
use mathlib.Core.Logic.{◌↔◌}
use mathlib.Core.Bool.{true, false, and-eq-true_iff}
use Rattle.std.specs.Prelude.{Option, None, Some}
use Rattle.numbers.proofs.All.{all_right, some_fails}
use Rattle.spec.specs.declared.Rate.{Rate}
use Rattle.spec.specs.declared.Spec.{Spec}
use Rattle.spec.specs.Limits.{rate_limits, IsAccepted, size_allowed, gap_allowed}
use Rattle.spec.proofs.Facts.{leb_iff, facts, gap_allowed_pos}
use Rattle.schedule.specs.Schedules.{Schedule, stretch}
use Rattle.schedule.specs.Timed.{timed_stretch, timed_gap}
use Rattle.schedule.specs.Rules.{GapsAllowed, SupplyKept, DemandMet, Obeys, TimedObeys, GapBroken, TooFull, TooThin}
use Rattle.lateness.specs.Delays.{UpTo, EveryDelay, SomeDelay}
use Rattle.lateness.specs.Lateness.{late_gap_allowed, late_supply, late_demand}
use Rattle.lateness.specs.PlannedSpec.{planned_spec}
use Rattle.lateness.proofs.Delays.{delayed_gap, gap_delay, gap_delay_right, gap_delay_gap, delayed_most, delayed_least, full_delay, full_delay_right, full_delay_lem, thin_delay, thin_delay_right, thin_delay_lem}
use Rattle.lateness.proofs.PlannedSpec.{planned_gap}

-- no delay at all is a choice for every J
pub on_time : (lateness : ℕ) → UpTo lateness (λ i. 0)
on_time lateness i = omega arith

module _ (s : Schedule) (lateness : ℕ) where
  -- every gap that delays make is one of those from J less to J more than the planned one, and each of those some delays make
  pub gaps_hold : (spec : Spec) → ((i : ℕ) → late_gap_allowed spec lateness (s.gap i) ≡ true) → EveryDelay lateness s (λ t. GapsAllowed spec (timed_gap t))
  unfolding late_gap_allowed
  gaps_hold spec e delay h i =
      let near = (all_right (λ x. gap_allowed spec (s.gap i + x - lateness)) (2 * lateness + 1)).0 (e i) in
      rw (delayed_gap s lateness delay h i) (near (lateness + delay (i + 1) - delay i) (omega (arith, h (i + 1))))

  pub gap_breaks : (spec : Spec) (j : ℕ) → late_gap_allowed spec lateness (s.gap j) ≡ false → SomeDelay lateness s (λ t. GapBroken spec (timed_gap t))
  unfolding late_gap_allowed
  gap_breaks spec j e =
      let n = some_fails (λ x. gap_allowed spec (s.gap j + x - lateness)) (2 * lateness + 1) e in
      let x = n.0 in
      let few : x < 2 * lateness + 1 = n.1.0 in
      (gap_delay s lateness j x, (gap_delay_right s lateness j x (omega arith), (j, rw (gap_delay_gap s lateness j x) n.1.1)))

  gaps_needed : (spec : Spec) → EveryDelay lateness s (λ t. GapsAllowed spec (timed_gap t)) → (i : ℕ) → late_gap_allowed spec lateness (s.gap i) ≡ true
  unfolding late_gap_allowed
  gaps_needed spec every i =
      (all_right _ (2 * lateness + 1)).1
      (λ x q. rw (gap_delay_gap s lateness i x) at (every (gap_delay s lateness i x) (gap_delay_right s lateness i x (omega arith)) i))

  -- an allowed gap is no 0, and on time every gap is the planned one
  pub later_gaps : (spec : Spec) → IsAccepted spec → EveryDelay lateness s (λ t. GapsAllowed spec (timed_gap t)) → (i : ℕ) → 1 ≤ s.gap i
  later_gaps spec accepted every i =
      let h = gap_allowed_pos spec _ accepted (every (λ i. 0) (on_time lateness) i) in
      omega (arith, delayed_gap s lateness (λ i. 0) (on_time lateness) i)

  module _ (later : (i : ℕ) → 1 ≤ s.gap i) where
    pub supply_holds : (rate : Option Rate) → SupplyKept (late_supply lateness rate) (stretch s) → EveryDelay lateness s (λ t. SupplyKept rate (timed_stretch t))
    unfolding late_supply
    supply_holds None kept delay h = tt
    supply_holds (Some x) kept delay h = λ a. le_trans (delayed_most s lateness later delay h a x.minutes) (kept (a - lateness))

    pub supply_breaks : (rate : Option Rate) → rate_limits rate ≡ true → TooFull (late_supply lateness rate) (stretch s)
        → SomeDelay lateness s (λ t. TooFull rate (timed_stretch t))
    unfolding late_supply rate_limits
    supply_breaks None limits full = absurd full
    supply_breaks (Some x) limits full =
        let a = full.0 in
        let k = simp (and-eq-true_iff, leb_iff) at limits in
        (full_delay s lateness a, (full_delay_right s lateness a, (a + lateness, omega (arith, full.1, full_delay_lem s lateness later a x.minutes (omega arith)))))

    supply_needed : (rate : Option Rate) → rate_limits rate ≡ true → EveryDelay lateness s (λ t. SupplyKept rate (timed_stretch t)) → SupplyKept (late_supply lateness rate) (stretch s)
    unfolding late_supply rate_limits
    supply_needed None limits every = tt
    supply_needed (Some x) limits every = λ a.
        let k = simp (and-eq-true_iff, leb_iff) at limits in
        le_trans (full_delay_lem s lateness later a x.minutes (omega arith)) (every (full_delay s lateness a) (full_delay_right s lateness a) (a + lateness))

    pub demand_holds : (rate : Option Rate) → DemandMet (late_demand lateness rate) (stretch s) → EveryDelay lateness s (λ t. DemandMet rate (timed_stretch t))
    unfolding late_demand
    demand_holds None met delay h = tt
    demand_holds (Some x) met delay h = λ a. le_trans (met a) (delayed_least s lateness later delay h a x.minutes)

    pub demand_breaks : (rate : Option Rate) → TooThin (late_demand lateness rate) (stretch s) → SomeDelay lateness s (λ t. TooThin rate (timed_stretch t))
    unfolding late_demand
    demand_breaks None thin = absurd thin
    demand_breaks (Some x) thin =
        let a = thin.0 in
        (thin_delay s lateness a x.minutes, (thin_delay_right s lateness a x.minutes, (a, omega (arith, thin.1, thin_delay_lem s lateness later a x.minutes))))

    demand_needed : (rate : Option Rate) → EveryDelay lateness s (λ t. DemandMet rate (timed_stretch t)) → DemandMet (late_demand lateness rate) (stretch s)
    unfolding late_demand
    demand_needed None every = tt
    demand_needed (Some x) every = λ a. le_trans (every (thin_delay s lateness a x.minutes) (thin_delay_right s lateness a x.minutes) a) (thin_delay_lem s lateness later a x.minutes)

-- a schedule obeys however its reports are delayed exactly when it obeys, on time, what planned minutes must meet
pub late_planned : (spec : Spec) (lateness : ℕ) (s : Schedule) → IsAccepted spec → EveryDelay lateness s (TimedObeys spec) ↔ Obeys (planned_spec spec lateness) s
unfolding planned_spec size_allowed
late_planned spec lateness s accepted = (
  λ every.
      let gaps : EveryDelay lateness s (λ t. GapsAllowed spec (timed_gap t)) = λ delay h. (every delay h).gaps in
      let later = later_gaps s lateness spec accepted gaps in
      record {
        sizes = (every (λ i. 0) (on_time lateness)).sizes;
        gaps = λ i. sym (planned_gap spec accepted lateness (s.gap i)) ∙ gaps_needed s lateness spec gaps i;
        supply = supply_needed s lateness later spec.supply (facts spec accepted).supply (λ delay h. (every delay h).supply);
        demand = demand_needed s lateness later spec.demand (λ delay h. (every delay h).demand);
      },
  λ o delay h.
      let gaps = gaps_hold s lateness spec (λ i. planned_gap spec accepted lateness (s.gap i) ∙ o.gaps i) in
      let later = later_gaps s lateness spec accepted gaps in
      record {
        sizes = o.sizes;
        gaps = gaps delay h;
        supply = supply_holds s lateness later spec.supply o.supply delay h;
        demand = demand_holds s lateness later spec.demand o.demand delay h;
      },
)
