-- With no minute of lateness the number is the check's.
use mathlib.Core.Path.{◌∙◌}
use Rattle.spec.specs.File.{read_spec}
use Rattle.cycle.proofs.Planned.{on_time_number}
use Rattle.maxeltu.proofs.maxeltu_check_cycle.Goals as goal

pub returns : goal.returns
returns c = c.maxeltu_check_late.ensures ∙ on_time_number (read_spec c.args.spec_bytes.now) c.args.pairs.now
