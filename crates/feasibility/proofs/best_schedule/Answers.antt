use Prim.Native.Nat.{◌+◌, ◌-◌}
use native.Mathlib.Omega.{arith}
use mathlib.Core.Path.{◌≡◌, sym, ◌∙◌}
use Rattle.spec.proofs.KnownRates.{known}
use Rattle.families.proofs.Plans.{in_range}
use Rattle.feasibility.specs.Test.{last_count, taken}
use Rattle.feasibility.proofs.Counts.{exists_iff}
use Rattle.feasibility.proofs.Best.{taken_first, taken_next}
use Rattle.feasibility.proofs.best_schedule.Goals as goal

pub schedule_with-best-requires : goal.schedule_with-best-requires
schedule_with-best-requires c = (exists_iff _ _ (known _ _ c.args.planning.begun) _ _).1 (omega arith, omega arith)

pub overflow_step-k : goal.overflow_step-k
overflow_step-k c =
    let n = known _ _ c.args.planning.begun in
    let first = in_range _ _ n _ c.first_count-first.result ((exists_iff _ _ n c.args.planning.family _).1 (omega arith, omega arith)) in
    record { fits = omega arith }

pub loop-k-init : goal.loop-k-init
loop-k-init c = (c.schedule_with-best.ensures ∙ sym (taken_first _ _ _), omega (arith, c.requires))

pub schedule_with-requires : goal.schedule_with-requires
schedule_with-requires c = (exists_iff _ _ (known _ _ c.args.planning.begun) _ _).1 (omega arith, omega arith)

pub loop-k-preserved : goal.loop-k-preserved
loop-k-preserved c =
    (rw (c.better_of-best.ensures, c.schedule_with.ensures, c.loop-k.invariant.0) (sym (taken_next _ _ _ _ (omega arith))), omega arith)

pub returns : goal.returns
unfolding taken
returns c =
    let plan = c.args.planning in
    let all : c.loop-k.k - (c.first_count-first.result + 1) ≡ last_count plan.family plan.spec plan.rates - c.first_count-first.result = omega arith in
    rw (← c.first_count-first.ensures, ← all) c.loop-k.invariant.0

pub returns-2 : goal.returns-2
unfolding taken
returns-2 c =
    let plan = c.args.planning in
    let all : c.loop-k.k + 1 - (c.first_count-first.result + 1) ≡ last_count plan.family plan.spec plan.rates - c.first_count-first.result = omega arith in
    rw (← c.first_count-first.ensures, ← all, c.better_of-best.ensures, c.schedule_with.ensures, c.loop-k.invariant.0) (sym (taken_next _ _ _ _ (omega arith)))
