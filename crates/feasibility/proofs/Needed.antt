-- Condition 4 turns away nothing that could be: in a schedule that obeys the rules, the R minutes from report 0 on hold ⌈R/smax⌉ reports or
-- more, each of dmin records or more, and no more than B.
use Prim.Native.Nat.{ℕ, ◌≤◌}
use native.Mathlib.Omega.{arith}
use native.Mathlib.Nat.{mul_comm}
use mathlib.Core.Path.{◌≡◌}
use mathlib.Core.Logic.{⊎_elim}
use Rattle.numbers.specs.Numbers.{ceil}
use Rattle.std.specs.Prelude.{Err}
use Rattle.spec.specs.declared.Spec.{Spec}
use Rattle.spec.proofs.Facts.{size_allowed_iff, gap_in_either, gap_allowed_pos}
use Rattle.spec.proofs.GoingOn.{one_range_iff}
use Rattle.schedule.specs.Schedules.{Schedule, minute}
use Rattle.schedule.specs.Rules.{Obeys}
use Rattle.schedule.proofs.Before.{stretch_least}
use Rattle.consistency.specs.declared.Condition.TheVariants.{FewestReportsFitBudget}
use Rattle.consistency.specs.Consistency.{inconsistent, consistency_of}
use Rattle.consistency.proofs.Conditions.{fourth_fails}

pub fourth_needed : (s : Spec) → consistency_of s ≡ Err (inconsistent FewestReportsFitBudget) → (t : Schedule) → ¬ Obeys s t
fourth_needed s e t o =
    let told = fourth_fails s e in
    let one = (one_range_iff s).0 told.0 in
    let b = told.1.0 in
    let r = told.1.1 in
    let short : (i : ℕ) → t.gap i ≤ s.smax =
    λ i. ⊎_elim (λ h. h.1) (λ h. absurd (let x = h.2 in let y = one.1 in cc)) ((gap_in_either s (t.gap i)).0 (o.gaps i)) in
    let full : (i : ℕ) → s.dmin ≤ t.size i = λ i. ((size_allowed_iff s (t.size i)).0 (o.sizes i)).0 in
    let least = stretch_least t (λ i. gap_allowed_pos s (t.gap i) one.0 (o.gaps i)) s.smax short s.dmin full 0 r in
    let kept = rw told.1.2 at o.supply in
    omega (arith, told.1.3, least, kept (minute t 0), mul_comm s.dmin (ceil r s.smax))
