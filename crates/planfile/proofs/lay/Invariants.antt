-- Before report i its pairs are laid.
use mathlib.Core.Path.{◌≡◌}
use Rattle.pairs.proofs.Unpacked.{laid}
use Rattle.planfile.specs.PlanFile.{plan_pairs}
use Rattle.planfile.proofs.lay.Given as goal

abbrev pub invariant-loop-i : goal.invariant-loop-i
invariant-loop-i l = l.words ≡ laid (plan_pairs l.proper.plan) l.initial.words l.i
