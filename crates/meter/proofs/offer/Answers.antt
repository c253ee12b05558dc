-- `offer` meets its contract: it hands out the answer of the step. Where the offer was accepted the step's meter is stored, and where it was refused
-- that is the meter which was there.
use mathlib.Core.Path.{sym, ap, ◌∙◌}
use Rattle.meter.specs.Ring.{Step}
use Rattle.meter.proofs.Steps.{err_number, refused_keeps}
use Rattle.meter.proofs.offer.Goals.{then-is_ok, else-is_ok}
use Rattle.meter.proofs.offer.Goals as goal

pub returns : goal.returns
returns c =
    let e = c.step-s.ensures in
    elim c.if-is_ok.branch [
      | then-is_ok w ↦ rw w.meter-is (ap (λ (y : Step). y.answer) e, ap (λ (y : Step). y.meter) e)
      | else-is_ok w ↦
          rw w.meter-is
          (ap (λ (y : Step). y.answer) e, refused_keeps c.args.meter.now c.args.minute c.args.size _ (ap (λ (y : Step). y.answer.number) e) (err_number _ (sym c.is_ok.ensures.value ∙ w.if-is_ok.false)))
    ]
