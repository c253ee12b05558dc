-- No rule is both kept and broken.
use Prim.Native.Nat.{ℕ}
use native.Mathlib.Omega.{arith}
use mathlib.Core.Logic.{⊎_elim}
use Rattle.numbers.proofs.Tests.{not_both}
use Rattle.spec.specs.declared.Rate.{Rate}
use Rattle.std.specs.Prelude.{Option, None, Some}
use Rattle.spec.specs.declared.Spec.{Spec}
use Rattle.schedule.specs.Schedules.{Schedule}
use Rattle.schedule.specs.Rules.{SupplyKept, DemandMet, Obeys, TooFull, TooThin, Breaks}

pub not_kept : (rate : Option Rate) (held : ℕ → ℕ → ℕ) → SupplyKept rate held → TooFull rate held → ⊥
not_kept None held kept full = full
not_kept (Some x) held kept full = omega (arith, kept full.0, full.1)

pub not_met : (rate : Option Rate) (held : ℕ → ℕ → ℕ) → DemandMet rate held → TooThin rate held → ⊥
not_met None held met thin = thin
not_met (Some x) held met thin = omega (arith, met thin.0, thin.1)

pub breaks_not_obeys : (spec : Spec) (s : Schedule) → Breaks spec s → ¬ Obeys spec s
breaks_not_obeys spec s b o =
    ⊎_elim
    (λ gap. not_both _ (o.gaps gap.0) gap.1)
    (λ others.
    ⊎_elim
    (λ size. not_both _ (o.sizes size.0) size.1)
    (λ rate. ⊎_elim (not_kept spec.supply _ o.supply) (not_met spec.demand _ o.demand) rate)
    others)
    b
