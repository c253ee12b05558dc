use native.Mathlib.Omega.{arith}
use Prim.Native.Nat.{ℕ, ◌-◌}
use mathlib.Core.Path.{◌≡◌, sym, ap}
use lib.ListN.{length}
use borrow.Author.Rules.{rules}
use Rattle.schedule.proofs.Sums.{sum_none, sum_more}
use Rattle.schedule.proofs.Before.{minute_none, minute_more}
use Rattle.cycle.specs.Cycles.{round, round_records}
use Rattle.cycle.specs.Windows.{pairs_in}
use Rattle.cycle.proofs.Chunks.{length_pairs_in}
use Rattle.cycle.proofs.Runs.{gap_in, size_in, first_turn}
use Rattle.cycle.proofs.windows.Cycle.round.Goals as goal

pub loop-pair-init : goal.loop-pair-init
loop-pair-init c = record { minutes = sym (minute_none _); records = sym (sum_none _); minutes_fit = omega arith; records_fit = omega arith }

pub loop-pair-preserved : goal.loop-pair-preserved
loop-pair-preserved c =
    let xs = c.args.self.now.pairs.now in
    let i = c.loop-pair.pair-index in
    let turned = first_turn i (length xs) c.loop-pair-test.true in
    record {
      minutes = rw minute_more (omega (arith, gap_in c.args.self.now.by xs i i turned _ c.place-at.ensures.0));
      records = rw sum_more (omega (arith, size_in c.args.self.now.by xs i i turned (1 - c.place-at.result) (ap (λ (at : ℕ). 1 - at) c.place-at.ensures.0)));
      minutes_fit = search rules;
      records_fit = search rules;
    }

pub returns : goal.returns
unfolding round round_records
returns c =
    let xs = c.args.self.now.pairs.now in
    let e : c.loop-pair.pair-index ≡ length (pairs_in c.args.self.now.by xs) = omega (arith, length_pairs_in c.args.self.now.by xs) in
    record {
      minutes = rw e at c.loop-pair.invariant.minutes;
      records = rw e at c.loop-pair.invariant.records;
      minutes_fit = omega (arith, c.args.self.now.walkable.few);
      records_fit = omega (arith, c.args.self.now.walkable.few);
    }
