-- What the box plan is compared with: "some cycle of 1 to 512 pairs with that one gap throughout".
use Rattle.std.specs.Prelude.{ℕ, ◌/◌, ◌≤◌, ◌<◌, ◌≡◌, List, length}
use Rattle.pairs.specs.declared.Pair.{Pair}
use Rattle.plan.specs.declared.Plan.{Plan}
use Rattle.cycle.specs.Cycles.{pair_gap}

pub record OneGapCycle (g : ℕ) (c : List Pair) : Type 0 where
  pub some : 1 ≤ length c
  pub few : length c ≤ 512
  pub gaps : (j : ℕ) → j < length c → pair_gap c j ≡ g

-- the gap of a plan of the even kind, "π/k"
abbrev pub plan_gap : Plan → ℕ
plan_gap p = p.period / p.count
