-- The starts at which a check lays its stretches: stretches anywhere go no farther than those of one round that start with a report, to the full side,
-- or one minute after one, to the thin side. So a rule is kept everywhere exactly when it is kept there.
use Prim.Native.Nat.{ℕ, ◌<◌}
use mathlib.Core.Path.{◌≡◌, refl}
use mathlib.Core.Logic.{◌↔◌}
use mathlib.Core.Bool.{Bool}
use mathlib.Core.List.{List}
use lib.ListN.{length}
use Rattle.std.specs.Prelude.{None, Some, true}
use Rattle.numbers.proofs.All.{all_right, same_test}
use Rattle.spec.specs.declared.Rate.{Rate}
use Rattle.spec.proofs.Facts.{leb_iff}
use Rattle.pairs.specs.declared.Pair.{Pair}
use Rattle.schedule.specs.Schedules.{stretch}
use Rattle.schedule.proofs.Repeats.{full_at_report, thin_after_report}
use Rattle.cycle.specs.declared.stretches.Side.{Side}
use Rattle.cycle.specs.declared.stretches.Side.TheVariants.{Fullest, Thinnest}
use Rattle.cycle.specs.Cycles.{cycle_run}
use Rattle.cycle.specs.Check.{supply_kept, demand_met}
use Rattle.cycle.specs.Margins.{begins, Within}
use Rattle.cycle.specs.Windows.{Walkable, within, starts_pass}
use Rattle.cycle.proofs.Runs.{gap_again, size_again, supply_right, demand_right}

pub within_iff : (side : Side) (records limit : ℕ) → (within side records limit ≡ true) ↔ Within side records limit
within_iff Fullest records limit = leb_iff records limit
within_iff Thinnest records limit = leb_iff limit records

module _ (ps : List Pair) (ok : Walkable ps) where
  pub all_within : (side : Side) (minutes limit : ℕ) → ((i : ℕ) → i < length ps → Within side (stretch (cycle_run ps) (begins side (cycle_run ps) i) minutes) limit)
      → (a : ℕ) → Within side (stretch (cycle_run ps) a minutes) limit
  all_within Fullest = full_at_report (cycle_run ps) ok.later (length ps) (size_again ps) (gap_again ps) ok.some
  all_within Thinnest = thin_after_report (cycle_run ps) ok.later (length ps) (size_again ps) (gap_again ps) ok.some

  -- a test of the stretches everywhere is one of those
  by_starts : (side : Side) (x : Rate) (test : Bool) → (test ≡ true) ↔ ((a : ℕ) → Within side (stretch (cycle_run ps) a x.minutes) x.records) → test ≡ starts_pass side x ps
  unfolding starts_pass
  by_starts side x test right =
      let s = cycle_run ps in
      let k = all_right (λ i. within side (stretch s (begins side s i) x.minutes) x.records) (length ps) in
      same_test _ _ (
        λ e. k.1 (λ i q. (within_iff side _ _).1 (right.0 e (begins side s i))),
        λ e. right.1 (all_within side x.minutes x.records (λ i q. (within_iff side _ _).0 (k.0 e i q))),
      )

-- by whether there is a rate
pub supply_absent : (ps : List Pair) → supply_kept None ps ≡ true
unfolding supply_kept
supply_absent ps = refl

pub demand_absent : (ps : List Pair) → demand_met None ps ≡ true
unfolding demand_met
demand_absent ps = refl

pub supply_present : (ps : List Pair) → Walkable ps → (x : Rate) → supply_kept (Some x) ps ≡ starts_pass Fullest x ps
supply_present ps ok x = by_starts ps ok Fullest x _ (supply_right ps ok.some ok.later (Some x))

pub demand_present : (ps : List Pair) → Walkable ps → (x : Rate) → demand_met (Some x) ps ≡ starts_pass Thinnest x ps
demand_present ps ok x = by_starts ps ok Thinnest x _ (demand_right ps ok.some ok.later (Some x))
