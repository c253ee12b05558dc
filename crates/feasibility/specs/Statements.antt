-- What the test answers, exactly. Each is proved in proofs/Theorems.antt, beside what the demands' page says of the test. Lemma 6 of
-- document 000 is false and not used; nor is Corollary 2, which is false under the condition 4 of that document.
use Rattle.std.specs.Prelude.{ℕ, ◌≤◌, ◌≡◌, ◌↔◌, true, false, Ok, Err}
use Rattle.spec.specs.declared.Spec.{Spec}
use Rattle.spec.specs.declared.Rates.{Rates}
use Rattle.spec.specs.Rates.{both_rates, started}
use Rattle.plan.specs.declared.Plan.{Plan}
use Rattle.consistency.specs.Consistency.{refused, consistency_of}
use Rattle.families.specs.declared.Family.{Family}
use Rattle.families.specs.Families.{schedule_of, schedule_for}
use Rattle.feasibility.specs.Test.{family_of, first_count, last_count, figure_passes, test_of, BestOfAll}

-- The test passes exactly the best of all k of a consistent specification, where its figure passes.
abbrev pub TestPasses : Type 0
TestPasses =
    (s : Spec) (q : Rates) (plan : Plan) (v : ℕ) → both_rates s ≡ Ok q
    → (test_of s ≡ Ok (schedule_of plan v))
    ↔ ((consistency_of s ≡ Ok tt) × BestOfAll (family_of q) s plan v × (figure_passes (family_of q) q v ≡ true))

-- 9 is given exactly where the best of all k does not pass.
abbrev pub TestNotPassed : Type 0
TestNotPassed =
    (s : Spec) (q : Rates) → both_rates s ≡ Ok q
    → (test_of s ≡ Err (refused 9))
    ↔ ((consistency_of s ≡ Ok tt)
    × ((plan : Plan) × (v : ℕ) × BestOfAll (family_of q) s plan v × (figure_passes (family_of q) q v ≡ false)))

-- The k with a schedule are just those that the test looks at.
abbrev pub CountsExact : Type 0
CountsExact =
    (s : Spec) (q : Rates) (f : Family) (k : ℕ) → started s ≡ Ok q
    → ((plan : Plan) × (v : ℕ) × (schedule_for f s k ≡ Ok (schedule_of plan v)))
    ↔ ((first_count f s q ≤ k) × (k ≤ last_count f s q))
