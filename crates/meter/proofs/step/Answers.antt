-- `step` meets its contract. Where the ways meet again, the meter is the one that was changed or the one that was handed in.
use mathlib.Core.Path.{sym, ◌∙◌}
use Rattle.meter.proofs.Steps.{ok_number, err_number, step_refused, step_accepted}
use Rattle.meter.proofs.step.Goals.{then-is_ok, else-is_ok}
use Rattle.meter.proofs.step.Goals as goal

pub returns : goal.returns
returns c =
    let a = c.aged-aged.ensures in
    let rest = rw c.from.ensures at c.saturating_sub-used.ensures in
    elim c.if-is_ok.branch [
      | then-is_ok w ↦
          let none = ok_number c.verdict-verdict.result (sym c.is_ok.ensures.value ∙ w.if-is_ok.true) in
          rw (c.left-left.ensures, w.next-is, w.records-is)
          (step_accepted _ _ _ _ _ _ _ a.count a.records rest c.verdict-verdict.ensures _ _ none w.place-first.ensures.place (w.from-at.ensures ∙ w.place.ensures.place))
      | else-is_ok w ↦
          let some = err_number c.verdict-verdict.result (sym c.is_ok.ensures.value ∙ w.if-is_ok.false) in
          rw (c.left-left.ensures, w.next-is, w.records-is)
          (step_refused _ _ _ _ _ _ _ a.count a.records rest c.verdict-verdict.ensures some)
    ]
