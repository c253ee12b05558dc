-- A schedule that is begun at one of its later reports: its stretches are those from that report's minute on, so it keeps the rules that the whole
-- keeps.
use Prim.Native.Nat.{ℕ, ◌+◌, ◌-◌, ◌≤◌, ◌<◌}
use native.Mathlib.Omega.{arith}
use native.Mathlib.Nat.{add_assoc}
use mathlib.Core.Path.{◌≡◌, sym, ◌∙◌}
use mathlib.Core.Logic.{◌↔◌, ⊎_elim}
use Rattle.std.specs.Prelude.{Option, None, Some}
use Rattle.numbers.proofs.Cases.{lt_cases}
use Rattle.spec.specs.declared.Rate.{Rate}
use Rattle.spec.specs.declared.Spec.{Spec}
use Rattle.schedule.specs.Schedules.{Schedule, minute, stretch, begun_at}
use Rattle.schedule.specs.Rules.{SizesAllowed, GapsAllowed, SupplyKept, DemandMet}
use Rattle.schedule.proofs.Sums.{sum_add, sum_same, block}
use Rattle.schedule.proofs.Stretches.{stretch_block}
use Rattle.schedule.proofs.Before.{reports_before, minute_least, minute_rise, before_iff, before_le, stretch_before}

pub gaps_begun : (spec : Spec) (s : Schedule) (k : ℕ) → GapsAllowed spec s.gap → GapsAllowed spec (begun_at s k).gap
unfolding begun_at
gaps_begun spec s k h i = h (k + i)

pub sizes_begun : (spec : Spec) (s : Schedule) (k : ℕ) → SizesAllowed spec s.size → SizesAllowed spec (begun_at s k).size
unfolding begun_at
sizes_begun spec s k h i = h (k + i)

module _ (s : Schedule) (later : (i : ℕ) → 1 ≤ s.gap i) (k : ℕ) where
  pub later_begun : (i : ℕ) → 1 ≤ (begun_at s k).gap i
  unfolding begun_at
  later_begun i = later (k + i)

  minute_begun : (i : ℕ) → minute s (k + i) ≡ minute s k + minute (begun_at s k) i
  unfolding minute begun_at block
  minute_begun i = sum_add s.gap k i

  pub before_begun : (a i : ℕ) → minute s i < minute s k + a ↔ i < k + reports_before (begun_at s k) a
  before_begun a i = ⊎_elim early late (lt_cases i k)
    where
      early : i < k → minute s i < minute s k + a ↔ i < k + reports_before (begun_at s k) a
      early h = (λ x. omega arith, λ x. omega (arith, minute_rise s later i k h))

      late : k ≤ i → minute s i < minute s k + a ↔ i < k + reports_before (begun_at s k) a
      late h =
          let e : minute s i ≡ minute s k + minute (begun_at s k) (i - k) = let z : k + (i - k) ≡ i = omega arith in rw z at (minute_begun (i - k)) in
          let r = before_iff (begun_at s k) later_begun a (i - k) in
          (λ x. let y = r.0 (omega arith) in omega arith, λ x. let y = r.1 (omega arith) in omega arith)

  block_begun : (lo n : ℕ) → block s.size (k + lo) n ≡ block (begun_at s k).size lo n
  unfolding block begun_at
  block_begun lo n = sum_same (λ j. s.size (k + lo + j)) (λ j. s.size (k + (lo + j))) n (λ j q. rw add_assoc)

  pub stretch_begun : (a w : ℕ) → stretch (begun_at s k) a w ≡ stretch s (minute s k + a) w
  stretch_begun a w =
      let t = begun_at s k in
      let lo = reports_before t a in
      let hi = reports_before t (a + w) in
      let z : k + hi - (k + lo) ≡ hi - lo = omega arith in
      let m : minute s k + a + w ≡ minute s k + (a + w) = add_assoc (minute s k) a w in
      sym
      (stretch_block s (minute s k + a) w (k + lo) (k + hi) (before_begun a) (rw m (before_begun (a + w)))
      (omega (arith, before_le t later_begun (a + w), minute_least s later k))
      ∙ rw (z, block_begun lo (hi - lo), stretch_before t later_begun a w))

  pub supply_begun : (r : Option Rate) → SupplyKept r (stretch s) → SupplyKept r (stretch (begun_at s k))
  supply_begun None h = tt
  supply_begun (Some x) h = λ a. rw (stretch_begun a x.minutes) (h (minute s k + a))

  pub demand_begun : (r : Option Rate) → DemandMet r (stretch s) → DemandMet r (stretch (begun_at s k))
  demand_begun None h = tt
  demand_begun (Some x) h = λ a. rw (stretch_begun a x.minutes) (h (minute s k + a))
