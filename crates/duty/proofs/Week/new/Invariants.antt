-- `Week::new` meets its contract: every day passed keeps the rules, and the open minutes of those days are counted. The first day
-- that breaks one ends the count.
use Rattle.duty.proofs.Tables.{DaysPassed}
use Rattle.duty.proofs.Week.new.Given as goal

abbrev pub invariant-loop-numbers : goal.invariant-loop-numbers
invariant-loop-numbers l = DaysPassed l.table l.numbers-index l.minutes
