-- The bill is of the pairs that the words hold, and more than 512 are answered as none are.
use Rattle.cost.proofs.Billing.{fit_bill}
use Rattle.maxeltu.specs.Calls.{cycle_cost_call}
use Rattle.maxeltu.proofs.LocalWords.{unpacked}
use Rattle.maxeltu.proofs.maxeltu_cycle_cost.Goals as goal

pub returns : goal.returns
unfolding cycle_cost_call
returns c =
    let same = unpacked c.args.pairs.now _ _ c.unpack-used.ensures in
    rw (← c.in-Ok.ensures, ← fit_bill c.in-Ok.s c.args.pairs.now c.args.reports, ← same, ← c.cycle_cost.ensures)
    (c.bill_answer.ensures.number, c.bill_answer.ensures.tenths, c.bill_answer.ensures.cents)
