-- Where there is a schedule, what is planned for so many reports is it.
use mathlib.Core.Path.{◌∙◌}
use Rattle.spec.proofs.KnownRates.{known}
use Rattle.families.proofs.Plans.{planned_is}
use Rattle.feasibility.proofs.schedule_with.Goals as goal

pub returns : goal.returns
returns c = c.schedule.ensures ∙ planned_is _ _ (known _ _ c.args.planning.begun) _ _ c.requires
