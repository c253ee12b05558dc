-- The endless run of a cycle: its reports, that it repeats with the round, and what the tests of the check say of every start.
use Prim.Native.Nat.{ℕ, ◌+◌, ◌-◌, ◌*◌, ◌/◌, ◌%◌, ◌≤◌, ◌<◌}
use native.Mathlib.Omega.{arith}
use native.Mathlib.Nat.{add-mod_right, mod-eq_of_lt, mod-lt}
use mathlib.Core.Path.{◌≡◌, refl, ◌∙◌, ap}
use mathlib.Core.Logic.{◌↔◌}
use mathlib.Core.List.{List, []}
use mathlib.Core.Bool.{Bool, true}
use lib.Dec.{leb}
use lib.ListN.{length, get_or}
use borrow.Author.Tests.{le-leb, leb-true}
use Rattle.std.specs.Prelude.{Option, None, Some}
use Rattle.numbers.specs.Numbers.{all}
use Rattle.numbers.proofs.All.{all_right}
use Rattle.spec.specs.declared.Rate.{Rate}
use Rattle.spec.specs.declared.Spec.{Spec}
use Rattle.spec.specs.Limits.{size_allowed, gap_allowed}
use Rattle.pairs.specs.declared.Pair.{Pair}
use Rattle.pairs.proofs.FlatLists.{length_pairs_of, size_pairs_of}
use Rattle.schedule.specs.Schedules.{stretch}
use Rattle.schedule.specs.Rules.{SizesAllowed, GapsAllowed, SupplyKept, DemandMet}
use Rattle.schedule.proofs.Before.{minute_least}
use Rattle.schedule.proofs.Repeats.{stretch_first}
use Rattle.cycle.specs.Cycles.{pair_gap, pair_size, cycle_run, round}
use Rattle.cycle.specs.Check.{gaps_allowed, sizes_allowed, supply_kept, demand_met}
use Rattle.cycle.specs.declared.windows.Measure.{Measure}
use Rattle.cycle.specs.Windows.{place_of, run_in, run_of}
use Rattle.cycle.proofs.Chunks.{length_pairs_in, pair_of_chunk}

-- of what repeats after c, all pass exactly when the first c do
all_again : (f : ℕ → Bool) (c : ℕ) → 1 ≤ c → (all f c ≡ true) ↔ ((i : ℕ) → f (i % c) ≡ true)
all_again f c some =
    let k = all_right f c in
    (λ e i. k.0 e (i % c) (mod-lt i some), λ h. k.1 (λ j q. rw (mod-eq_of_lt q) at (h j)))

module _ (ps : List Pair) where
  pub gap_again : (i : ℕ) → (cycle_run ps).gap (i + length ps) ≡ (cycle_run ps).gap i
  unfolding cycle_run
  gap_again i = ap (pair_gap ps) (add-mod_right i (length ps))

  pub size_again : (i : ℕ) → (cycle_run ps).size (i + length ps) ≡ (cycle_run ps).size i
  unfolding cycle_run
  size_again i = ap (pair_size ps) (add-mod_right i (length ps))

  -- the reports of the first round are those of the pairs
  pub pair_gap_lem : (j : ℕ) → j < length ps → (cycle_run ps).gap j ≡ pair_gap ps j
  unfolding cycle_run
  pair_gap_lem j h = ap (pair_gap ps) (mod-eq_of_lt h)

  pub pair_size_lem : (j : ℕ) → j < length ps → (cycle_run ps).size j ≡ pair_size ps j
  unfolding cycle_run
  pair_size_lem j h = ap (pair_size ps) (mod-eq_of_lt h)

  module _ (some : 1 ≤ length ps) where
    -- any test of the gaps
    pub each_gap : (test : ℕ → Bool) → (all (λ j. test (pair_gap ps j)) (length ps) ≡ true) ↔ ((i : ℕ) → test ((cycle_run ps).gap i) ≡ true)
    unfolding cycle_run
    each_gap test = all_again (λ j. test (pair_gap ps j)) (length ps) some

    pub gaps_right : (spec : Spec) → (gaps_allowed spec ps ≡ true) ↔ GapsAllowed spec (cycle_run ps).gap
    unfolding gaps_allowed
    gaps_right spec = each_gap (gap_allowed spec)

    pub sizes_right : (spec : Spec) → (sizes_allowed spec ps ≡ true) ↔ SizesAllowed spec (cycle_run ps).size
    unfolding sizes_allowed cycle_run
    sizes_right spec = all_again (λ j. size_allowed spec (pair_size ps j)) (length ps) some

    pub gaps_later : ((j : ℕ) → j < length ps → 1 ≤ pair_gap ps j) → (i : ℕ) → 1 ≤ (cycle_run ps).gap i
    unfolding cycle_run
    gaps_later h i = h (i % length ps) (mod-lt i some)

    -- where no gap is 0, a rate is kept at every minute exactly when it is kept at those of one round
    module _ (later : (i : ℕ) → 1 ≤ (cycle_run ps).gap i) where
      pub round_some : 1 ≤ round ps
      unfolding round
      round_some = omega (arith, minute_least (cycle_run ps) later (length ps))

      first : (a w : ℕ) → stretch (cycle_run ps) a w ≡ stretch (cycle_run ps) (a % round ps) w
      unfolding round
      first a w = stretch_first (cycle_run ps) later (length ps) size_again gap_again a w

      pub supply_right : (r : Option Rate) → (supply_kept r ps ≡ true) ↔ SupplyKept r (stretch (cycle_run ps))
      unfolding supply_kept
      supply_right None = (λ e. tt, λ h. refl)
      supply_right (Some x) =
          let k = all_again (λ a. leb (stretch (cycle_run ps) a x.minutes) x.records) (round ps) round_some in
          (λ e a. rw (first a x.minutes) (leb-true _ _ (k.0 e a)), λ h. k.1 (λ a. le-leb _ _ (h (a % round ps))))

      pub demand_right : (r : Option Rate) → (demand_met r ps ≡ true) ↔ DemandMet r (stretch (cycle_run ps))
      unfolding demand_met
      demand_right None = (λ e. tt, λ h. refl)
      demand_right (Some x) =
          let k = all_again (λ a. leb x.records (stretch (cycle_run ps) a x.minutes)) (round ps) round_some in
          (λ e a. rw (first a x.minutes) (leb-true _ _ (k.0 e a)), λ h. k.1 (λ a. le-leb _ _ (h (a % round ps))))

-- report i of the endless run, at its pair's place j
module _ (by : Measure) (xs : List (List ℕ)) (i j : ℕ) (turned : i % length xs ≡ j) where
  pub gap_in : (at : ℕ) → at ≡ place_of by → get_or (get_or xs j []) at 0 ≡ (run_in by xs).gap i
  unfolding cycle_run pair_gap
  gap_in at e = rw (e, length_pairs_in by xs, turned, pair_of_chunk by xs j)

  pub size_in : (at : ℕ) → at ≡ 1 - place_of by → get_or (get_or xs j []) at 0 ≡ (run_in by xs).size i
  unfolding cycle_run pair_size
  size_in at e = rw (e, length_pairs_in by xs, turned, pair_of_chunk by xs j)

-- and in a flat list, as the crate `cost` bills it
pub flat_size : (l : List ℕ) (i j : ℕ) → j < length l / 2 → i % (length l / 2) ≡ j → (run_of l).size i ≡ get_or l (2 * j + 1) 0
unfolding cycle_run pair_size
flat_size l i j inside turned = rw (length_pairs_of l, turned) (size_pairs_of l j)

-- the place of report i, one of the first two rounds
pub first_turn : (i c : ℕ) → i < c → i % c ≡ i
first_turn i c h = mod-eq_of_lt h

pub second_turn : (i c : ℕ) → c ≤ i → i < 2 * c → i % c ≡ i - c
second_turn i c h k =
    let e : i ≡ i - c + c = omega arith in
    ap (λ (n : ℕ). n % c) e ∙ add-mod_right (i - c) c ∙ mod-eq_of_lt (omega arith)
