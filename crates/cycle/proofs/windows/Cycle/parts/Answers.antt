-- No gap is 0, so a round has some minutes to divide by; with at most 65,536 minutes there are no more rounds, so their records fit.
-- `parts_add` says that the two parts hold what the whole holds.
use Prim.Native.Nat.{◌-◌, ◌≤◌, ◌<◌}
use native.Mathlib.Omega.{arith}
use native.Mathlib.Nat.{mod-lt, mul-le-mul}
use mathlib.Core.List.{List}
use Rattle.pairs.specs.declared.Pair.{Pair}
use Rattle.cycle.specs.Cycles.{round}
use Rattle.cycle.specs.Windows.{Walkable}
use Rattle.cycle.proofs.Runs.{round_some}
use Rattle.cycle.proofs.Rounds.{parts_split, rounds_most}
use Rattle.cycle.proofs.windows.Cycle.parts.Goals as goal

some_minutes : (ps : List Pair) → Walkable ps → 1 ≤ round ps
some_minutes ps ok = round_some ps ok.some ok.later

pub nonzero_div-rounds : goal.nonzero_div-rounds
nonzero_div-rounds c = omega (arith, some_minutes _ c.args.self.now.walkable)

pub nonzero_rem-result : goal.nonzero_rem-result
nonzero_rem-result c = omega (arith, some_minutes _ c.args.self.now.walkable)

pub returns : goal.returns
returns c =
    let ok = c.args.self.now.walkable in
    let r = c.round-round.ensures in
    let some : 0 < c.round-round.result.minutes = omega (arith, some_minutes _ ok) in
    record {
      splits = rw (← r.minutes) (parts_split _ _ c.requires.0);
      records = rw (← r.records);
      some = omega arith;
      short = omega (arith, mod-lt (c.args.minutes - 1) some);
      rounds_fit = rounds_most _ _ c.requires.1;
      records_fit = mul-le-mul (rounds_most _ _ c.requires.1) r.records_fit;
    }
