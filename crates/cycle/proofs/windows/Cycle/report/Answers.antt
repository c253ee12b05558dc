-- Report i has the gap and the size of its pair, whose place in its round is i, or i less a round.
use Prim.Native.Nat.{ℕ, ◌-◌, ◌%◌}
use mathlib.Core.Path.{◌≡◌, sym, ◌∙◌, ap}
use lib.ListN.{length}
use Rattle.cycle.proofs.Runs.{gap_in, size_in, first_turn, second_turn}
use Rattle.cycle.proofs.windows.Cycle.report.Goals.{then-i-count, else-i-count}
use Rattle.cycle.proofs.windows.Cycle.report.Goals as goal

pub returns : goal.returns
returns c =
    let xs = c.args.self.now.pairs.now in
    let turned : c.args.i % length xs ≡ c.if-i-count.j =
    elim c.if-i-count.branch [
      | then-i-count w ↦ first_turn _ _ w.if-i-count.true ∙ sym w.j-is
      | else-i-count w ↦ second_turn _ _ w.if-i-count.false c.requires ∙ sym w.j-is
    ] in
    record { gap = gap_in c.args.self.now.by xs _ _ turned _ c.place-at.ensures.0; size = size_in c.args.self.now.by xs _ _ turned _ (ap (λ (at : ℕ). 1 - at) c.place-at.ensures.0) }
