-- Document 01, "What each operation turns down": "Minute and size of report i, i from 0 to 2³² − 1: 11 the plan is not proper."
use Rattle.std.specs.Prelude.{ℕ, cond, Result, Ok, Err}
use Rattle.schedule.specs.Schedules.{minute}
use Rattle.plan.specs.declared.Plan.{Plan}
use Rattle.plan.specs.declared.Report.{Report}
use Rattle.plan.specs.Plans.{proper, run}

-- what is told of a proper plan, "11 the plan is not proper" of any other
unfoldable pub if_proper : {A : Type 0} → Plan → A → Result A ℕ
if_proper p told = cond (proper p) (Ok told) (Err 11)

-- a report by its numbers
abbrev pub report_at : ℕ → ℕ → Report
report_at m d = record { minute = m; size = d }

-- report i of the plan's endless run, or the refusal
unfoldable pub report_of : Plan → ℕ → Result Report ℕ
report_of p i = if_proper p (report_at (minute (run p) i) ((run p).size i))
