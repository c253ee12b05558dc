-- The invariant: what is taken so far is the best from the first k to the one before this. It holds before the second, goes on by one k
-- (`taken_next`), and past the last it is what is taken. Every k from the first to the last has a schedule (`exists_iff`).
use Prim.Native.Nat.{◌+◌, ◌-◌, ◌≤◌}
use mathlib.Core.Path.{◌≡◌}
use Rattle.families.specs.Families.{schedule_with}
use Rattle.feasibility.specs.Test.{last_count, taken_from}
use Rattle.feasibility.proofs.best_schedule.Given as goal

abbrev pub invariant-loop-k : goal.invariant-loop-k
invariant-loop-k l =
    let plan = l.planning in
    (l.best ≡ taken_from plan.family (schedule_with plan.family plan.spec plan.rates) l.first (l.k - (l.first + 1)))
    × (l.k ≤ last_count plan.family plan.spec plan.rates + 1)
