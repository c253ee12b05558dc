-- What is true of the even plan beside what the demands' page says. Proved in proofs/Broken.antt and proofs/EvenPlans.antt.
use Rattle.std.specs.Prelude.{ℕ, ◌/◌, ◌≤◌, ◌≡◌, ◌↔◌, true, Ok}
use Rattle.spec.specs.declared.Spec.{Spec}
use Rattle.spec.specs.Limits.{IsAccepted, gap_allowed}
use Rattle.schedule.specs.Rules.{Obeys}
use Rattle.plan.specs.declared.Plan.{Plan}
use Rattle.even.specs.Even.{fits, even_plan, evenly}

-- some endless list of sizes obeys the rules at the gap g
abbrev pub Feasible : Spec → ℕ → Type 0
Feasible s g = (sizes : ℕ → ℕ) × Obeys s (evenly g sizes)

-- The arithmetic of the even plan: at an allowed gap it says whether some endless list of sizes, repeating or not, obeys the rules.
abbrev pub ArithmeticRight : Type 0
ArithmeticRight =
    (s : Spec) (g : ℕ) → IsAccepted s → gap_allowed s g ≡ true → (fits s g ≡ true) ↔ Feasible s g

-- Where some schedule with one gap throughout obeys the rules, a plan is given, and its gap is no shorter.
abbrev pub EvenPlanGiven : Type 0
EvenPlanGiven =
    (s : Spec) → IsAccepted s → (g : ℕ) (sizes : ℕ → ℕ) → Obeys s (evenly g sizes)
    → (p : Plan) × (even_plan s ≡ Ok p) × (g ≤ p.period / p.count)
