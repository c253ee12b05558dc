-- A meter that was made is stored, and is a fresh one; at a refusal the lent one stays.
use Rattle.spec.specs.File.{read_spec}
use Rattle.meter.proofs.Making.{made_told}
use Rattle.maxeltu.proofs.maxeltu_make_meter.Goals as goal

pub returns : goal.returns
returns c =
    rw (c.value_answer.ensures.number, c.value_answer.ensures.place) (made_told c.args.meter.now (read_spec c.args.spec_bytes.now) _ c.make_from.ensures)
