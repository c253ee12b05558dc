-- The pair of report i stands at its place in its round, which is i, or i less a round.
use Rattle.std.proofs.Common.{◌≡◌, ◌%◌, length}
use mathlib.Core.Path.{◌∙◌, sym}
use Rattle.cycle.proofs.Runs.{first_turn, second_turn}
use Rattle.normal.specs.Normal.{pair_of}
use Rattle.normal.proofs.Cycle.pair.Goals.{then-i-count, else-i-count}
use Rattle.normal.proofs.Cycle.pair.Goals as goal

pub returns : goal.returns
unfolding pair_of
returns c =
    let turned : c.args.i % length c.args.self.now.pairs.now ≡ c.if-i-count.j =
    elim c.if-i-count.branch [
      | then-i-count w ↦ first_turn _ _ w.if-i-count.true ∙ sym w.j-is
      | else-i-count w ↦ second_turn _ _ w.if-i-count.false c.requires ∙ sym w.j-is
    ] in
    rw turned
