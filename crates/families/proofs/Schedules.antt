-- A schedule for k reports, once the rates are there; and what is known of one that is found.
use Prim.Native.Nat.{ℕ, ◌%◌, ◌-◌, ◌≤◌}
use mathlib.Core.Path.{◌≡◌, refl, sym, ◌∙◌, ap}
use mathlib.Core.Logic.{◌↔◌}
use mathlib.Core.Bool.{Bool, true, false}
use Rattle.std.specs.Prelude.{Result, Ok, Err}
use Rattle.spec.specs.declared.Spec.{Spec}
use Rattle.spec.specs.declared.Rates.{Rates}
use Rattle.spec.specs.Rates.{HasTwoRanges, both_rates, started, if_rates}
use Rattle.spec.proofs.GoingOn.{rates_tell_25, started_both, started_at}
use Rattle.spec.proofs.KnownRates.{Known, known}
use Rattle.schedule.specs.Schedules.{stretch}
use Rattle.plan.specs.declared.Plan.{Plan}
use Rattle.plan.specs.Plans.{proper, run}
use Rattle.families.specs.declared.Family.{Family}
use Rattle.families.specs.declared.Family.TheVariants.{MinimumDemand, MaximumSupply}
use Rattle.families.specs.declared.Scheduled.{Scheduled}
use Rattle.families.specs.Families.{exists, plan_for, required, supply_figure, schedule_of, schedule_with, scheduled, schedule_for}
use Rattle.families.proofs.Figures.{required_fullest, available_least, available_held}
use Rattle.families.proofs.Plans.{scheduled_none, scheduled_some, plan_proper, plan_count}

-- A schedule that is found exists, and is the one that the definitions give.
pub record Exists (f : Family) (s : Spec) (q : Rates) (k : ℕ) (plan : Plan) (v : ℕ) : Type 0 where
  pub there : exists f s q k ≡ true
  pub is : plan_for f s q k ≡ plan
  pub figure : supply_figure f q plan ≡ v
  pub count : plan.count ≡ k

found_exists : (f : Family) (s : Spec) (q : Rates) (k : ℕ) (plan : Plan) (v : ℕ) → scheduled f s q k ≡ Ok (schedule_of plan v) → Exists f s q k plan v
unfolding schedule_with
found_exists f s q k plan v e = pick (exists f s q k) refl
  where
    pick : (b : Bool) → exists f s q k ≡ b → Exists f s q k plan v
    pick true h =
        let x : Ok (schedule_with f s q k) ≡ Ok (schedule_of plan v) = sym (scheduled_some f s q k h) ∙ e in
        let same : schedule_with f s q k ≡ schedule_of plan v = cc in
        let p : plan_for f s q k ≡ plan = ap (λ (t : Scheduled). t.plan) same in
        record { there = h; is = p; figure = rw (← p) (ap (λ (t : Scheduled). t.supply) same); count = rw (← p) (plan_count f s q k) }
    pick false h = absurd (let x = scheduled_none f s q k h in cc)

module _ (f : Family) (s : Spec) (q : Rates) (k : ℕ) where
  pub schedule_at : started s ≡ Ok q → schedule_for f s k ≡ scheduled f s q k
  unfolding schedule_for
  schedule_at e = rw e

  pub none_at : Known s q → exists f s q k ≡ false → schedule_for f s k ≡ Err 6
  none_at n h = schedule_at n.start ∙ scheduled_none f s q k h

  pub some_at : Known s q → exists f s q k ≡ true → schedule_for f s k ≡ Ok (schedule_with f s q k)
  some_at n h = schedule_at n.start ∙ scheduled_some f s q k h

-- only a specification that is started with has a schedule
schedule_started : (f : Family) (s : Spec) (q : Rates) (k : ℕ) (plan : Plan) (v : ℕ)
    → both_rates s ≡ Ok q → schedule_for f s k ≡ Ok (schedule_of plan v) → started s ≡ Ok q
unfolding schedule_for
schedule_started f s q k plan v e x = pick (started s) refl x
  where
    pick : (r : Result Rates ℕ) → started s ≡ r → if_rates r (λ p. scheduled f s p k) Err ≡ Ok (schedule_of plan v) → started s ≡ Ok q
    pick (Ok p) h y = started_at s q (started_both s p h).0 e
    pick (Err n) h y = cc

-- 25 is given exactly to an accepted specification with a second range, whatever k is
no_25 : (f : Family) (s : Spec) (q : Rates) (k : ℕ) → ¬ (scheduled f s q k ≡ Err 25)
no_25 f s q k x = pick (exists f s q k) refl
  where
    pick : (b : Bool) → exists f s q k ≡ b → ⊥
    pick true e = let y = scheduled_some f s q k e in cc
    pick false e = let y = scheduled_none f s q k e in cc

pub schedule_25 : (f : Family) (s : Spec) (k : ℕ) → (schedule_for f s k ≡ Err 25) ↔ HasTwoRanges s
unfolding schedule_for
schedule_25 f s k = rates_tell_25 s (λ q. scheduled f s q k) Err (λ n e. cc) (λ q start. no_25 f s q k)

pub record FoundAt (f : Family) (s : Spec) (q : Rates) (k : ℕ) (plan : Plan) (v : ℕ) : Type 0 where
  pub rates : Known s q
  pub at : Exists f s q k plan v
  pub ok : proper plan ≡ true

pub found_at : (f : Family) (s : Spec) (q : Rates) (k : ℕ) (plan : Plan) (v : ℕ) → both_rates s ≡ Ok q → schedule_for f s k ≡ Ok (schedule_of plan v) → FoundAt f s q k plan v
found_at f s q k plan v e h =
    let start = schedule_started f s q k plan v e h in
    let n = known s q start in
    let x = found_exists f s q k plan v (sym (schedule_at f s q k start) ∙ h) in
    record {
      rates = n;
      at = x;
      ok = rw (← x.is) (plan_proper s q n f k x.there);
    }

-- The required supply is what minutes 0 to R - 1 hold, and no stretch of R minutes holds more.
pub required_is_most : (s : Spec) (q : Rates) (k : ℕ) (plan : Plan) (v : ℕ) → both_rates s ≡ Ok q → schedule_for MinimumDemand s k ≡ Ok (schedule_of plan v)
    → (stretch (run plan) 0 q.r ≡ v) × ((a : ℕ) → stretch (run plan) a q.r ≤ v)
unfolding supply_figure required
required_is_most s q k plan v e h =
    let x = found_at MinimumDemand s q k plan v e h in
    (x.at.figure, λ a. rw (← x.at.figure) (required_fullest plan x.ok q.r a))

-- The available supply is the least that any stretch of P minutes holds: each holds at least that, and some stretch just that.
pub available_is_least : (s : Spec) (q : Rates) (k : ℕ) (plan : Plan) (v : ℕ) → both_rates s ≡ Ok q → schedule_for MaximumSupply s k ≡ Ok (schedule_of plan v)
    → ((a : ℕ) → v ≤ stretch (run plan) a q.p) × ((a : ℕ) × (stretch (run plan) a q.p ≡ v))
unfolding supply_figure
available_is_least s q k plan v e h =
    let x = found_at MaximumSupply s q k plan v e h in (
      λ a. rw (← x.at.figure) (available_least plan x.ok q.p a),
      (plan.period - q.p % plan.period, available_held plan x.ok q.p ∙ x.at.figure),
    )
