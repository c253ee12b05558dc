-- The gaps are tried as the even plan's are, of a P that is no longer than the given one.
use Rattle.spec.proofs.Facts.{facts}
use Rattle.lateness.specs.Lateness.{late_demand}
use Rattle.lateness.specs.PlannedSpec.{planned_spec}
use Rattle.even.proofs.Tries.{few_of_one}
use Rattle.boxplan.specs.Search.{FewTries}
use Rattle.boxplan.proofs.BoxPlans.{planned_demand}

pub few_tries : FewTries
unfolding planned_spec
few_tries spec lateness accepted =
    few_of_one (late_demand lateness spec.demand) (λ x e. (planned_demand lateness spec.demand (facts spec accepted).demand x e).1)
