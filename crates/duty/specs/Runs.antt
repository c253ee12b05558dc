-- Document 02, Req 11: "A plan .. run on duty minutes". Stretches of reports at given minutes are those of Req 09.
use Rattle.schedule.specs.Schedules.{Schedule, minute}
use Rattle.schedule.specs.Timed.{Timed}
use Rattle.duty.specs.Weeks.{Table}
use Rattle.duty.specs.Minutes.{calendar_minute}

-- the reports of a schedule whose minutes are duty minutes, each at its calendar minute
abbrev pub on_duty : Table → Schedule → Timed
on_duty table s = record { size = s.size; minute = λ i. calendar_minute table (minute s i) }
