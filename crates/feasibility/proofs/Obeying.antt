-- A schedule that is found: its plan is proper and its figure is what it says. Where the figure passes, the plan's endless run obeys the
-- rules: a minimum demand schedule meets the demand by its total, as a period is not longer than P, and keeps the budget by its figure;
-- a maximum supply schedule keeps the budget by its total, as a period is not shorter than R, and meets the demand by its figure.
use Prim.Native.Nat.{ℕ, ◌≤◌}
use native.Mathlib.Nat.{le_trans, le-max_right, min-le_right}
use mathlib.Core.Path.{◌≡◌}
use mathlib.Core.Bool.{true}
use borrow.Author.Tests.{leb-true}
use Rattle.spec.specs.declared.Spec.{Spec}
use Rattle.schedule.specs.Schedules.{stretch}
use Rattle.schedule.specs.Rules.{Obeys}
use Rattle.plan.specs.declared.Plan.{Plan}
use Rattle.plan.specs.Plans.{run}
use Rattle.families.specs.declared.Family.{Family}
use Rattle.families.specs.declared.Family.TheVariants.{MinimumDemand, MaximumSupply}
use Rattle.spec.specs.declared.Rates.{Rates}
use Rattle.families.specs.Families.{plan_for, supply_figure}
use Rattle.feasibility.specs.Test.{figure_passes}
use Rattle.plan.proofs.Runs.{held_within, held_beyond}
use Rattle.families.proofs.Figures.{required_fullest, available_least}
use Rattle.families.proofs.Plans.{plan_sizes, plan_gaps}
use Rattle.families.proofs.Schedules.{FoundAt}

-- A schedule whose figure passes obeys the rules.
module _ (s : Spec) (q : Rates) (k : ℕ) (plan : Plan) (v : ℕ) where
  supply_kept : (f : Family) → FoundAt f s q k plan v → figure_passes f q v ≡ true → (a : ℕ) → stretch (run plan) a q.r ≤ q.b
  unfolding figure_passes supply_figure plan_for
  supply_kept MinimumDemand x h a =
      le_trans (required_fullest plan x.ok q.r a) (rw x.at.figure (leb-true _ _ h))
  supply_kept MaximumSupply x h a =
      le_trans (held_within plan x.ok a q.r (rw (← x.at.is) (le-max_right _ _))) (rw (← x.at.is) (min-le_right _ _))

  demand_met : (f : Family) → FoundAt f s q k plan v → figure_passes f q v ≡ true → (a : ℕ) → q.l ≤ stretch (run plan) a q.p
  unfolding figure_passes supply_figure plan_for
  demand_met MinimumDemand x h a =
      le_trans (rw (← x.at.is) (le-max_right _ _)) (held_beyond plan x.ok a q.p (rw (← x.at.is) (min-le_right _ _)))
  demand_met MaximumSupply x h a =
      le_trans (rw x.at.figure (leb-true _ _ h)) (available_least plan x.ok q.p a)

  pub obeys : (f : Family) → FoundAt f s q k plan v → figure_passes f q v ≡ true → Obeys s (run plan)
  obeys f x h = record {
    sizes = rw (← x.at.is) (plan_sizes s q x.rates f k x.at.there);
    gaps = rw (← x.at.is) (plan_gaps s q x.rates f k x.at.there);
    supply = rw x.rates.supply (supply_kept f x h);
    demand = rw x.rates.demand (demand_met f x h);
  }
