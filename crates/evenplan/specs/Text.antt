-- Document 01, "Samples": what `evenplan` prints. "First line s, k, δ; then for each report of one period its number, minute, size. A
-- refusal prints only the line `refused 10`, with its own number (1 to 4 or 10) in that place." 24 too (document 02, Req 06).
-- Each line that is handed to `write_line` is one of these, and a writer that says what it holds has them all, in order. That the system's
-- output does is tested and not proved: no contract can say what the system writes.
use Rattle.std.specs.Prelude.{ℕ, zero, suc, ◌+◌, ◌/◌, cond, List, [], ◌++◌, ltb, codes, Result, Ok, Err}
use Rattle.std.specs.Fmt.{decimal}
use Rattle.spec.specs.Refusals.{number_of}
use Rattle.plan.specs.declared.Plan.{Plan}
use Rattle.plan.specs.declared.Report.{Report}
use Rattle.plan.specs.Reports.{report_of}
use Rattle.evenplan.specs.declared.Line.{Line}
use Rattle.evenplan.specs.declared.Line.TheVariants.{Plan as PlanLine, Report as ReportLine, Refused}

-- `decimal` is the kit's: the digits of a number, as its `{}` writes them. "gap 5 cycle 4 total 10"
abbrev pub plan_text : ℕ → ℕ → ℕ → List ℕ
plan_text gap count total = codes "gap " ++ decimal gap ++ codes " cycle " ++ decimal count ++ codes " total " ++ decimal total ++ codes "\n"

-- "First line s, k, δ"
abbrev pub plan_line : Plan → List ℕ
plan_line p = plan_text (p.period / p.count) p.count p.total

-- "the line `refused 10`, with its own number (1 to 4 or 10) in that place"
abbrev pub refusal_line : ℕ → List ℕ
refusal_line n = codes "refused " ++ decimal n ++ codes "\n"

-- "3 15 2"
abbrev pub report_text : ℕ → ℕ → ℕ → List ℕ
report_text i minute size = decimal i ++ codes " " ++ decimal minute ++ codes " " ++ decimal size ++ codes "\n"

-- "its number, minute, size". (The plans that are printed are proper, and no report of theirs is refused.)
abbrev pub report_line : ℕ → Result Report ℕ → List ℕ
report_line i (Ok r) = report_text i r.minute r.size
report_line i (Err n) = refusal_line n

-- Line i of an answer, counted from 0: the first, and of a plan line i + 1 is that of report i, "for each report of one period". "A refusal
-- prints only the line".
abbrev pub line_of : Result Plan ℕ → ℕ → List ℕ
line_of (Ok p) zero = plan_line p
line_of (Ok p) (suc i) = cond (ltb i p.count) (report_line i (report_of p i)) []
line_of (Err n) zero = refusal_line n
line_of (Err n) (suc i) = []

-- the first n lines of an answer, one after another
abbrev pub lines_of : Result Plan ℕ → ℕ → List ℕ
lines_of answer zero = []
lines_of answer (suc n) = lines_of answer n ++ line_of answer n

-- "First line s, k, δ; then for each report of one period" another; "a refusal prints only the line"
abbrev pub line_count : Result Plan ℕ → ℕ
line_count (Ok p) = 1 + p.count
line_count (Err n) = 1

-- all that is printed
abbrev pub listing_of : Result Plan ℕ → List ℕ
listing_of answer = lines_of answer (line_count answer)

-- what `Display` writes of a line of the code
abbrev pub text_of : Line → List ℕ
text_of (PlanLine gap count total) = plan_text gap count total
text_of (ReportLine i r) = report_text i r.minute r.size
text_of (Refused refusal) = refusal_line (number_of refusal)
