-- Of the request "How much leeway a cycle has" (beyond document 02): how late the reports of a cycle may be, and the plan that lets them be
-- latest. "Tolerance of a cycle: the largest lateness J up to 1,440 for which it passes; the check's refusals (J = 0) where it does not pass at
-- all." "The most tolerant plan: the largest J up to 1,440 for which a box plan exists, with the box plan for it; 30 where there is none for
-- J = 0." Both are the largest lateness for which something is found, with what is found for it.
use Rattle.std.specs.Prelude.{ℕ, ⊤, List, Result, Ok, Err, is_ok}
use Rattle.spec.specs.declared.Spec.{Spec}
use Rattle.spec.specs.Limits.{if_none}
use Rattle.schedule.specs.Moments.{greatest}
use Rattle.plan.specs.declared.Plan.{Plan}
use Rattle.pairs.specs.declared.Pair.{Pair}
use Rattle.cycle.specs.LateCheck.{late_number}
use Rattle.boxplan.specs.BoxPlan.{box_plan}
use Rattle.tolerance.specs.declared.Late.{Late}

-- "the largest lateness J up to 1,440" for which something is found; 0 where nothing is for any
unfoldable pub latest : {A : Type 0} → (ℕ → Result A ℕ) → ℕ
latest ask = greatest (λ j. is_ok (ask j)) 1_440

-- a lateness with what is found for it, or what it is refused for
abbrev pub at_lateness : {A : Type 0} → ℕ → Result A ℕ → Result (Late A) ℕ
at_lateness j (Ok x) = Ok (record { lateness = j; found = x })
at_lateness j (Err n) = Err n

-- the largest with what is found for it; where nothing is for any, the refusal of J = 0
unfoldable pub most_late : {A : Type 0} → (ℕ → Result A ℕ) → Result (Late A) ℕ
most_late ask = at_lateness (latest ask) (ask (latest ask))

-- the check with lateness, which finds no more than that the cycle "passes"
unfoldable pub passing : Spec → List Pair → ℕ → Result ⊤ ℕ
passing spec ps lateness = if_none (late_number spec lateness ps) (Ok tt) Err

-- the lateness alone
abbrev pub lateness_of : {A : Type 0} → Result (Late A) ℕ → Result ℕ ℕ
lateness_of (Ok t) = Ok t.lateness
lateness_of (Err n) = Err n

-- "Tolerance of a cycle"
unfoldable pub tolerance : Spec → List Pair → Result ℕ ℕ
tolerance spec ps = lateness_of (most_late (passing spec ps))

-- "The most tolerant plan"
unfoldable pub tolerant_plan : Spec → Result (Late Plan) ℕ
tolerant_plan spec = most_late (box_plan spec)
