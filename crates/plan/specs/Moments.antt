-- Document 02, Req 05: "For a proper plan and a minute below 2³²: the number of the last report at or before it, and the nearest report, the
-- earlier of two equally near. Also how many reports, and how many records, lie from minute a up to but not including b .. Turned away:
-- 23 when b is before a, after 11."
use Rattle.std.specs.Prelude.{ℕ, cond, leb, Result, Ok, Err}
use Rattle.schedule.specs.Moments.{last_report, nearest_report, reports_from, records_from}
use Rattle.plan.specs.declared.Plan.{Plan}
use Rattle.plan.specs.declared.moments.Contents.{Contents}
use Rattle.plan.specs.Plans.{proper, run}
use Rattle.plan.specs.Reports.{if_proper}

-- the last report of the plan's endless run at or before minute m, and the nearest, or the refusal
abbrev pub last_of : Plan → ℕ → Result ℕ ℕ
last_of p m = if_proper p (last_report (run p) m)

abbrev pub nearest_of : Plan → ℕ → Result ℕ ℕ
nearest_of p m = if_proper p (nearest_report (run p) m)

-- so many reports and records
abbrev pub contents_of : ℕ → ℕ → Contents
contents_of n d = record { reports = n; records = d }

-- reports and records from minute a up to but not including b: "23 when b is before a, after 11"
unfoldable pub between_of : Plan → ℕ → ℕ → Result Contents ℕ
between_of p a b = cond (proper p) (cond (leb a b) (Ok (contents_of (reports_from (run p) a b) (records_from (run p) a b))) (Err 23)) (Err 11)
