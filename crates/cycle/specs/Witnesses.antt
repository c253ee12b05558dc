-- What a refusal of the check shows, for every cycle. Proved in proofs/CyclesPassed.antt. No function rests on it; `shown_15` and
-- `shown_16` of the demands' page rest on the last two.
use Rattle.std.specs.Prelude.{ℕ, ◌<◌, ◌≡◌, List, false, length}
use Rattle.spec.specs.declared.Spec.{Spec}
use Rattle.spec.specs.Limits.{size_allowed, gap_allowed}
use Rattle.pairs.specs.declared.Pair.{Pair}
use Rattle.schedule.specs.Schedules.{stretch}
use Rattle.schedule.specs.Rules.{TooFull, TooThin}
use Rattle.cycle.specs.Cycles.{pair_gap, pair_size, cycle_run}
use Rattle.cycle.specs.Check.{check_number}

-- Each number from 13 on has its witness: a pair whose gap or whose size is not allowed, a stretch that is too full or too thin.
abbrev pub GapRefused : Type 0
GapRefused = (spec : Spec) (ps : List Pair) → check_number spec ps ≡ 13 → (j : ℕ) × ((j < length ps) × (gap_allowed spec (pair_gap ps j) ≡ false))

abbrev pub SizeRefused : Type 0
SizeRefused = (spec : Spec) (ps : List Pair) → check_number spec ps ≡ 14 → (j : ℕ) × ((j < length ps) × (size_allowed spec (pair_size ps j) ≡ false))

abbrev pub SupplyRefused : Type 0
SupplyRefused = (spec : Spec) (ps : List Pair) → check_number spec ps ≡ 15 → TooFull spec.supply (stretch (cycle_run ps))

abbrev pub DemandRefused : Type 0
DemandRefused = (spec : Spec) (ps : List Pair) → check_number spec ps ≡ 16 → TooThin spec.demand (stretch (cycle_run ps))
