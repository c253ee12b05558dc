-- Document 01, "The shape of some places": "When an answer is an enum, the promises use a definition that gives this paper's number
-- and values for each case."
use Rattle.std.specs.Prelude.{ℕ, cond, List, [], ◌∷◌, eqb, get_or, Option, None, Some, Result, Ok, Err}
use Rattle.plan.specs.declared.Plan.{Plan}
use Rattle.plan.specs.declared.Report.{Report}
use Rattle.plan.specs.declared.moments.Contents.{Contents}
use Rattle.plan.specs.Plans.{plan_numbers}
use Rattle.cycle.specs.declared.Row.{Row}
use Rattle.cycle.specs.declared.margins.Margin.{Margin}
use Rattle.cycle.specs.declared.margins.Margins.{Margins}
use Rattle.cost.specs.declared.Bill.{Bill}
use Rattle.consistency.specs.declared.Condition.{Condition}
use Rattle.consistency.specs.declared.Condition.TheVariants.{BoundsFitRates, FewestReportsFitBudget, EnoughReportsForDemand, SupplyCoversDemand}
use Rattle.consistency.specs.Consistency.{Failing, inconsistent, refused}
use Rattle.families.specs.declared.Scheduled.{Scheduled}
use Rattle.tolerance.specs.declared.Late.{Late}
use Rattle.dated.specs.declared.InForce.{InForce}
use Rattle.dated.specs.declared.InForce.TheVariants.{First, Second}

-- the number, 0 where nothing is refused, and the values that go with it
pub record Answer : Type 0 where
  pub number : ℕ
  pub values : List ℕ

-- an answer with its values, and one with the number of its refusal alone
abbrev pub yields : List ℕ → Answer
yields values = record { number = 0; values = values }

abbrev pub refusal : ℕ → Answer
refusal n = record { number = n; values = [] }

-- conditions "3 to 6 of the list above, which are not refusal numbers"
abbrev pub condition_number : Condition → ℕ
condition_number BoundsFitRates = 3
condition_number FewestReportsFitBudget = 4
condition_number EnoughReportsForDemand = 5
condition_number SupplyCoversDemand = 6

-- "7, carrying the first condition that fails", or the number of another refusal
abbrev pub failing : Failing → Answer
failing (inconsistent c) = record { number = 7; values = condition_number c ∷ [] }
failing (refused n) = refusal n

-- consistency: nothing more to say, or 7, or 3, 4, 24 or 25
abbrev pub consistency_answer : Result (Unit {0}) Failing → Answer
consistency_answer (Ok u) = yields []
consistency_answer (Err f) = failing f

-- a schedule for k reports: its plan's numbers and its supply figure, or 3 to 6, 24 or 25
abbrev pub scheduled_answer : Result Scheduled ℕ → Answer
scheduled_answer (Ok x) = yields (plan_numbers x.plan (x.supply ∷ []))
scheduled_answer (Err n) = refusal n

-- the test: the numbers of the plan that it passes and its supply figure, or 7, or 3, 4, 24, 25, 5, 9
abbrev pub tested_answer : Result Scheduled Failing → Answer
tested_answer (Ok x) = yields (plan_numbers x.plan (x.supply ∷ []))
tested_answer (Err f) = failing f

-- the even plan: its numbers, or 3, 4, 24, 10; and the box plan: its numbers, or 3, 4, 24, 26, 30
abbrev pub plan_answer : Result Plan ℕ → Answer
plan_answer (Ok p) = yields (plan_numbers p [])
plan_answer (Err n) = refusal n

-- a report: minute, size; or 11
abbrev pub report_answer : Result Report ℕ → Answer
report_answer (Ok x) = yields (x.minute ∷ x.size ∷ [])
report_answer (Err n) = refusal n

-- what lies between two minutes: reports, records; or 11, 23
abbrev pub contents_answer : Result Contents ℕ → Answer
contents_answer (Ok x) = yields (x.reports ∷ x.records ∷ [])
contents_answer (Err n) = refusal n

-- what the first reports cost: tenths of a cent, whole cents; or 11 of a plan, 3, 4, 24, 12 to 16 of a cycle (document 02, Req 08)
abbrev pub bill_answer : Result Bill ℕ → Answer
bill_answer (Ok x) = yields (x.tenths ∷ x.cents ∷ [])
bill_answer (Err n) = refusal n

-- the number of a check and, with 15 and 16, the row that shows it: its first report's number, how many reports (document 02, Req 14)
abbrev pub row_values : Option Row → List ℕ
row_values None = []
row_values (Some row) = row.first ∷ row.reports ∷ []

abbrev pub judged_answer : ℕ → Option Row → Answer
judged_answer n stretch = record { number = n; values = row_values stretch }

-- a margin: what the stretch holds, its report's number; nothing where the rate is absent
abbrev pub margin_values : Option Margin → List ℕ
margin_values None = []
margin_values (Some m) = m.records ∷ m.report ∷ []

-- one margin of a cycle, that of the fullest R minutes or that of the thinnest P minutes; or 3, 4, 24, 12 to 14
abbrev pub margin_answer : (Margins → Option Margin) → Result Margins ℕ → Answer
margin_answer which (Ok m) = yields (margin_values (which m))
margin_answer which (Err n) = refusal n

abbrev pub fullest_answer : Result Margins ℕ → Answer
fullest_answer = margin_answer (λ m. m.fullest)

abbrev pub thinnest_answer : Result Margins ℕ → Answer
thinnest_answer = margin_answer (λ m. m.thinnest)

-- the most tolerant plan: its numbers and its lateness; or 3, 4, 24, 30
abbrev pub tolerant_answer : Result (Late Plan) ℕ → Answer
tolerant_answer (Ok x) = yields (plan_numbers x.found (x.lateness ∷ []))
tolerant_answer (Err n) = refusal n

-- 1 the first of two dated files, 2 the second
abbrev pub which_file : InForce → ℕ
which_file First = 1
which_file Second = 2

-- which is in force; or 12, 17 to 19, 21, 29 (document 02, Req 13)
abbrev pub in_force_answer : Result InForce ℕ → Answer
in_force_answer (Ok w) = yields (which_file w ∷ [])
in_force_answer (Err n) = refusal n

-- One number: that of the last or the nearest report, or 11 (document 02, Req 05); the calendar minute of a duty minute, or 27, and the duty
-- minute of an open calendar minute, or 27, 28 (document 02, Req 11); how many pairs a normal form has, or 12, 20 (document 02, Req 12); how many
-- bytes a plan written out has, or 11, 12, 20; how late the reports of a cycle may be, or 3, 4, 24, 12 to 16.
abbrev pub value_answer : Result ℕ ℕ → Answer
value_answer (Ok x) = yields (x ∷ [])
value_answer (Err n) = refusal n

-- What a lent place holds after a call: value i of the answer where the answer's number is `when`, else what it held.
unfoldable pub held_after : (when i : ℕ) → Answer → ℕ → ℕ
held_after when i answer held = cond (eqb answer.number when) (get_or answer.values i held) held

-- the same where values go with more than one number, as with 15 and 16: value i, where the answer has one
unfoldable pub held_or_value : (i : ℕ) → Answer → ℕ → ℕ
held_or_value i answer held = get_or answer.values i held
