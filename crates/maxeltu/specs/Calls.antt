-- What each call of the C interface answers, by the definitions of the operations. "Every operation given a specification" gets its
-- file's bytes here, so the refusals of reading it, 1 to 4 and 24, come first.
use Rattle.std.specs.Prelude.{ℕ, List, Result, Ok, Err}
use Rattle.spec.specs.File.{read_spec, if_read}
use Rattle.plan.specs.declared.Kind.{Kind}
use Rattle.plan.specs.declared.Plan.{Plan}
use Rattle.plan.specs.Plans.{kind_named, plan_of}
use Rattle.plan.specs.Reports.{report_of}
use Rattle.plan.specs.Moments.{last_of, nearest_of, between_of}
use Rattle.consistency.specs.Consistency.{consistency_of}
use Rattle.families.specs.declared.Family.{Family}
use Rattle.families.specs.Families.{schedule_for}
use Rattle.feasibility.specs.Test.{test_of}
use Rattle.even.specs.Even.{even_plan}
use Rattle.boxplan.specs.BoxPlan.{box_plan}
use Rattle.tolerance.specs.Tolerance.{tolerance, tolerant_plan}
use Rattle.planfile.specs.PlanFile.{plan_file}
use Rattle.pairs.specs.declared.Pair.{Pair}
use Rattle.cycle.specs.Check.{check_number}
use Rattle.cycle.specs.Shortest.{shortest_stretch}
use Rattle.cycle.specs.Margins.{margins_of}
use Rattle.cost.specs.Bills.{plan_bill, cycle_bill}
use Rattle.normal.specs.Answers.{normalised}
use Rattle.dated.specs.InForce.{in_force}
use Rattle.duty.specs.Minutes.{calendar_of, duty_of, table_of}
use Rattle.answers.specs.Answers.{Answer, refusal, consistency_answer, scheduled_answer, tested_answer, plan_answer, report_answer, contents_answer, bill_answer, judged_answer, fullest_answer, thinnest_answer, tolerant_answer, in_force_answer, value_answer}

unfoldable pub consistency_call : List ℕ → Answer
consistency_call bytes = if_read (read_spec bytes) (λ s. consistency_answer (consistency_of s)) refusal

unfoldable pub schedule_call : Family → List ℕ → ℕ → Answer
schedule_call f bytes k = if_read (read_spec bytes) (λ s. scheduled_answer (schedule_for f s k)) refusal

unfoldable pub test_call : List ℕ → Answer
test_call bytes = if_read (read_spec bytes) (λ s. tested_answer (test_of s)) refusal

unfoldable pub even_call : List ℕ → Answer
even_call bytes = if_read (read_spec bytes) (λ s. plan_answer (even_plan s)) refusal

unfoldable pub box_call : List ℕ → (lateness : ℕ) → Answer
box_call bytes lateness = if_read (read_spec bytes) (λ s. plan_answer (box_plan s lateness)) refusal

unfoldable pub tolerant_call : List ℕ → Answer
tolerant_call bytes = if_read (read_spec bytes) (λ s. tolerant_answer (tolerant_plan s)) refusal

-- the plan of these numbers, the first of which names a kind
abbrev pub plan_with : Result Kind ℕ → (k π δ : ℕ) → Result Plan ℕ
plan_with (Ok kind) k π δ = Ok (plan_of kind k π δ)
plan_with (Err n) k π δ = Err n

unfoldable pub plan_named : (kind k π δ : ℕ) → Result Plan ℕ
plan_named kind = plan_with (kind_named kind)

-- a call on a plan
abbrev pub if_named : Result Plan ℕ → (Plan → Answer) → Answer
if_named (Ok p) call = call p
if_named (Err n) call = refusal n

unfoldable pub report_call : (kind k π δ i : ℕ) → Answer
report_call kind k π δ i = if_named (plan_named kind k π δ) (λ p. report_answer (report_of p i))

unfoldable pub last_call : (kind k π δ minute : ℕ) → Answer
last_call kind k π δ minute = if_named (plan_named kind k π δ) (λ p. value_answer (last_of p minute))

unfoldable pub nearest_call : (kind k π δ minute : ℕ) → Answer
nearest_call kind k π δ minute = if_named (plan_named kind k π δ) (λ p. value_answer (nearest_of p minute))

unfoldable pub between_call : (kind k π δ a b : ℕ) → Answer
between_call kind k π δ a b = if_named (plan_named kind k π δ) (λ p. contents_answer (between_of p a b))

unfoldable pub plan_cost_call : (kind k π δ reports : ℕ) → Answer
plan_cost_call kind k π δ reports = if_named (plan_named kind k π δ) (λ p. bill_answer (plan_bill p reports))

-- the file of a plan written out as a cycle, where so many bytes are lent, or the number
abbrev pub file_named : Result Plan ℕ → (room : ℕ) → Result (List ℕ) ℕ
file_named (Ok p) room = plan_file room p
file_named (Err n) room = Err n

unfoldable pub plan_file_call : (kind k π δ room : ℕ) → Result (List ℕ) ℕ
plan_file_call kind k π δ room = file_named (plan_named kind k π δ) room

unfoldable pub cycle_cost_call : List ℕ → List Pair → (reports : ℕ) → Answer
cycle_cost_call bytes ps reports = if_read (read_spec bytes) (λ s. bill_answer (cycle_bill s ps reports)) refusal

-- the check of a list of pairs, with the shortest stretch that shows a 15 or a 16
unfoldable pub stretch_call : List ℕ → List Pair → Answer
stretch_call bytes ps = if_read (read_spec bytes) (λ s. judged_answer (check_number s ps) (shortest_stretch s ps)) refusal

-- the margins of a list of pairs, that of the fullest R minutes and that of the thinnest P minutes
unfoldable pub fullest_call : List ℕ → List Pair → Answer
fullest_call bytes ps = if_read (read_spec bytes) (λ s. fullest_answer (margins_of s ps)) refusal

unfoldable pub thinnest_call : List ℕ → List Pair → Answer
thinnest_call bytes ps = if_read (read_spec bytes) (λ s. thinnest_answer (margins_of s ps)) refusal

-- how late the reports of a list of pairs may be
unfoldable pub tolerance_call : List ℕ → List Pair → Answer
tolerance_call bytes ps = if_read (read_spec bytes) (λ s. value_answer (tolerance s ps)) refusal

-- the normal form of a list of pairs, for a lent list of so many places
unfoldable pub normal_call : List Pair → (places : ℕ) → Answer
normal_call ps places = value_answer (normalised places ps)

-- which of two dated cycle files is in force
unfoldable pub in_force_call : (first second : List ℕ) → Answer
in_force_call first second = in_force_answer (in_force first second)

-- a call on a week table, which comes as a list of numbers
unfoldable pub calendar_call : List ℕ → (duty : ℕ) → Answer
calendar_call numbers duty = value_answer (calendar_of (table_of numbers) duty)

unfoldable pub duty_call : List ℕ → (calendar : ℕ) → Answer
duty_call numbers calendar = value_answer (duty_of (table_of numbers) calendar)
