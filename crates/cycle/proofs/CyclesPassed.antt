-- The check's number against the four rules: 0 exactly where the endless run obeys them, and a witness for each number after 12.
use Prim.Native.Nat.{ℕ, ◌≤◌}
use native.Mathlib.Omega.{arith}
use mathlib.Core.Path.{◌≡◌, sym, ◌∙◌}
use mathlib.Core.Logic.{◌↔◌, ⊎_elim}
use mathlib.Core.List.{List}
use mathlib.Core.Bool.{true, false}
use lib.Dec.{leb}
use lib.ListN.{length}
use borrow.Author.Tests.{leb-false}
use Rattle.std.specs.Prelude.{Option, None, Some}
use Rattle.numbers.proofs.All.{some_fails}
use Rattle.spec.specs.declared.Rate.{Rate}
use Rattle.spec.specs.declared.Spec.{Spec}
use Rattle.spec.specs.Limits.{spec_number, IsAccepted}
use Rattle.spec.proofs.Facts.{facts, size_allowed_iff, gap_allowed_pos}
use Rattle.spec.proofs.GoingOn.{went_on, number_few}
use Rattle.pairs.specs.declared.Pair.{Pair}
use Rattle.pairs.specs.Pairs.{count_in}
use Rattle.pairs.proofs.Counts.{count_in_true}
use Rattle.schedule.specs.Schedules.{stretch}
use Rattle.schedule.specs.Rules.{Obeys, TooFull, TooThin}
use Rattle.cycle.specs.Cycles.{cycle_run, round}
use Rattle.cycle.specs.Check.{gaps_allowed, sizes_allowed, supply_kept, demand_met, cycle_number, check_number}
use Rattle.cycle.specs.Witnesses.{GapRefused, SizeRefused, SupplyRefused, DemandRefused}
use Rattle.cycle.proofs.Runs.{gaps_right, sizes_right, supply_right, demand_right}
use Rattle.cycle.proofs.Steps.{gets_0, Said, said, count_right}
use Rattle.cycle.proofs.Numbers.{gets_cycle}

pub cycle_said : (spec : Spec) (ps : List Pair) → Said (cycle_number spec ps) (count_in (length ps)) (gaps_allowed spec ps) (sizes_allowed spec ps) (supply_kept spec.supply ps) (demand_met spec.demand ps)
unfolding cycle_number
cycle_said spec ps = said (count_in (length ps)) _ _ _ _

-- where all tests pass, the number is 0
passes : (spec : Spec) (ps : List Pair) → count_in (length ps) ≡ true → gaps_allowed spec ps ≡ true → sizes_allowed spec ps ≡ true
    → supply_kept spec.supply ps ≡ true → demand_met spec.demand ps ≡ true → cycle_number spec ps ≡ 0
unfolding cycle_number
passes spec ps count gaps sizes supply demand = sym (gets_0 _ _ _ _ _ count gaps sizes supply demand)

-- a number from 13 to 16 is the cycle's own: 3, 4 and 24 are the specification's
pub cycle_own : (spec : Spec) (ps : List Pair) (n : ℕ) → 13 ≤ n → n ≤ 16 → check_number spec ps ≡ n → IsAccepted spec × (cycle_number spec ps ≡ n)
unfolding check_number
cycle_own spec ps n low high e =
    went_on (spec_number spec) (cycle_number spec ps) (λ m. m) n (λ some z. ⊎_elim (λ few. omega arith) (λ is. omega arith) (number_few spec some)) e

pub gap_refused : GapRefused
unfolding gaps_allowed
gap_refused spec ps e = some_fails _ (length ps) ((cycle_said spec ps).is_13 (cycle_own spec ps 13 (omega arith) (omega arith) e).1)

pub size_refused : SizeRefused
unfolding sizes_allowed
size_refused spec ps e = some_fails _ (length ps) ((cycle_said spec ps).is_14 (cycle_own spec ps 14 (omega arith) (omega arith) e).1).1

pub too_full : (rate : Option Rate) (ps : List Pair) → supply_kept rate ps ≡ false → TooFull rate (stretch (cycle_run ps))
unfolding supply_kept
too_full None ps e = absurd (let z : ◌≡◌ {A = ℕ} 0 1 = cc in omega arith)
too_full (Some x) ps e =
    let k = some_fails (λ a. leb (stretch (cycle_run ps) a x.minutes) x.records) (round ps) e in
    (k.0, leb-false _ _ k.1.1)

pub too_thin : (rate : Option Rate) (ps : List Pair) → demand_met rate ps ≡ false → TooThin rate (stretch (cycle_run ps))
unfolding demand_met
too_thin None ps e = absurd (let z : ◌≡◌ {A = ℕ} 0 1 = cc in omega arith)
too_thin (Some x) ps e =
    let k = some_fails (λ a. leb x.records (stretch (cycle_run ps) a x.minutes)) (round ps) e in
    (k.0, leb-false _ _ k.1.1)

pub supply_refused : SupplyRefused
supply_refused spec ps e = too_full spec.supply ps ((cycle_said spec ps).is_15 (cycle_own spec ps 15 (omega arith) (omega arith) e).1).2

pub demand_refused : DemandRefused
demand_refused spec ps e = too_thin spec.demand ps ((cycle_said spec ps).is_16 (cycle_own spec ps 16 (omega arith) (omega arith) e).1).3

-- a cycle is passed exactly when its endless run obeys the four rules
pub passed_obeys : (spec : Spec) (ps : List Pair) → IsAccepted spec → 1 ≤ length ps → length ps ≤ 512
    → (check_number spec ps ≡ 0) ↔ Obeys spec (cycle_run ps)
passed_obeys spec ps accepted some few = (
  λ e.
      let t = (cycle_said spec ps).is_0 (sym (gets_cycle spec ps accepted) ∙ e) in
      let g = (gaps_right ps some spec).0 t.1 in
      let later : (i : ℕ) → 1 ≤ (cycle_run ps).gap i = λ i. gap_allowed_pos spec ((cycle_run ps).gap i) accepted (g i) in
      record {
        sizes = (sizes_right ps some spec).0 t.2;
        gaps = g;
        supply = (supply_right ps some later spec.supply).0 t.3;
        demand = (demand_right ps some later spec.demand).0 t.4;
      },
  λ o.
      let later : (i : ℕ) → 1 ≤ (cycle_run ps).gap i = λ i. gap_allowed_pos spec ((cycle_run ps).gap i) accepted (o.gaps i) in
      gets_cycle spec ps accepted
      ∙ passes spec ps (count_right (length ps) some few)
      ((gaps_right ps some spec).1 o.gaps)
      ((sizes_right ps some spec).1 o.sizes)
      ((supply_right ps some later spec.supply).1 o.supply)
      ((demand_right ps some later spec.demand).1 o.demand),
)

-- only an accepted specification passes a cycle, and only one of 1 to 512 pairs, none of which has more than 1,000 records
module _ (spec : Spec) (ps : List Pair) (passed : check_number spec ps ≡ 0) where
  own : IsAccepted spec × (cycle_number spec ps ≡ 0)
  unfolding check_number
  own = went_on (spec_number spec) (cycle_number spec ps) (λ m. m) 0 (λ some z. some z) passed

  pub passed_count : (1 ≤ length ps) × (length ps ≤ 512)
  passed_count = count_in_true (length ps) ((cycle_said spec ps).is_0 own.1).0

  pub passed_size : (i : ℕ) → (cycle_run ps).size i ≤ 1000
  passed_size i =
      let o = (passed_obeys spec ps own.0 passed_count.0 passed_count.1).0 passed in
      omega (arith, (size_allowed_iff spec ((cycle_run ps).size i)).0 (o.sizes i), (facts spec own.0).size_high)
