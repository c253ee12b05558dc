-- Document 01, "The even plan": "For a gap s let m = ⌊P/s⌋, the fewest reports in any P minutes, and n = ⌈R/s⌉, the most in any R.
-- Take the largest s in the range at which an endless list of sizes obeys the rules. The plan has k = m, π = m × s, δ the larger of
-- m × dmin and L. With demand absent, k = 1, π = s, δ = dmin. Consistency is not a condition here. Refusal is judged against every
-- endless list of sizes." And "What each operation turns down": "10 none exists." Document 02, Req 06: "The even plan looks through both,
-- largest gap first, and its refusal means that neither range has a gap that works."
-- Whether a gap has such a list is said here by arithmetic, so that it computes; `ArithmeticRight` of Statements.antt, proved in
-- proofs/Broken.antt, says that this is the document's condition.
use Rattle.std.specs.Prelude.{ℕ, zero, suc, ◌*◌, ◌/◌, max, Bool, true, false, cond, ◌&&◌, List, leb, eqb, Option, None, Some, Result, Ok, Err}
use Rattle.spec.specs.declared.Rate.{Rate}
use Rattle.spec.specs.declared.Spec.{Spec}
use Rattle.spec.specs.Limits.{if_accepted, gap_allowed, gap_top}
use Rattle.spec.specs.File.{read_spec, if_read}
use Rattle.numbers.specs.Numbers.{ceil}
use Rattle.schedule.specs.Schedules.{Schedule}
use Rattle.plan.specs.declared.Kind.TheVariants.{Even}
use Rattle.plan.specs.declared.Plan.{Plan}
use Rattle.plan.specs.Plans.{plan_of}

-- k of the plan at the gap s: m = ⌊P/s⌋, "the fewest reports in any P minutes"; "With demand absent, k = 1"
unfoldable pub count_at : Option Rate → ℕ → ℕ
count_at None s = 1
count_at (Some x) s = x.minutes / s

-- δ of the plan with m reports in its period: "the larger of m × dmin and L"; with demand absent, "δ = dmin"
unfoldable pub total_of : Option Rate → ℕ → ℕ → ℕ
total_of None dmin m = dmin
total_of (Some x) dmin m = max (m * dmin) x.records

-- m reports can hold L. As L is at least 1, there is no such m as 0.
unfoldable pub demand_fits : Option Rate → ℕ → ℕ → Bool
demand_fits None dmax m = true
demand_fits (Some x) dmax m = leb x.records (m * dmax)

-- n = ⌈R/s⌉, "the most in any R": where every m reports in a row hold δ, n of them hold n × δ / m, and that is at most B
unfoldable pub supply_fits : Option Rate → ℕ → ℕ → ℕ → Bool
supply_fits None s m δ = true
supply_fits (Some x) s m δ = leb (ceil x.minutes s * δ) (m * x.records)

-- some endless list of sizes obeys the rules at the gap s, where s is allowed
unfoldable pub fits : Spec → ℕ → Bool
fits spec s =
    demand_fits spec.demand spec.dmax (count_at spec.demand s)
    && supply_fits spec.supply s (count_at spec.demand s) (total_of spec.demand spec.dmin (count_at spec.demand s))

-- the largest of 1, .., n that passes; 0 where none does
unfoldable pub largest : (ℕ → Bool) → ℕ → ℕ
largest ok zero = 0
largest ok (suc n) = elim (ok (suc n)) [ true ↦ suc n | false ↦ largest ok n ]

-- "the largest s in the range at which an endless list of sizes obeys the rules", in either range; 0 where there is none
unfoldable pub even_gap : Spec → ℕ
even_gap spec = largest (λ s. gap_allowed spec s && fits spec s) (gap_top spec)

-- "k = m, π = m × s, δ .."
unfoldable pub even_plan_at : Spec → ℕ → Plan
even_plan_at spec s =
    let m = count_at spec.demand s in
    plan_of Even m (m * s) (total_of spec.demand spec.dmin m)

-- "10 none exists"
unfoldable pub plan_or10 : Spec → ℕ → Result Plan ℕ
plan_or10 spec s = cond (eqb s 0) (Err 10) (Ok (even_plan_at spec s))

-- the even plan of a specification as numbers, which begins with 3, 4 and 24, and of a specification file
unfoldable pub even_plan : Spec → Result Plan ℕ
even_plan spec = if_accepted spec (plan_or10 spec (even_gap spec)) Err

abbrev pub even_of : List ℕ → Result Plan ℕ
even_of bytes = if_read (read_spec bytes) even_plan Err

-- "every schedule with one gap": reports of the given sizes, each g minutes after the one before
abbrev pub evenly : ℕ → (ℕ → ℕ) → Schedule
evenly g sizes = record { size = sizes; gap = λ i. g }
