-- Schedules on duty minutes. The reports of w calendar minutes from a are those at the duty minutes from the count before a to that before
-- a + w, which are w in a row or fewer; so they hold no more than w minutes of the schedule. And two reports are on the calendar as
-- far apart as their duty minutes, or further.
use Prim.Native.Nat.{ℕ, ◌+◌, ◌≤◌, ◌<◌}
use native.Mathlib.Omega.{arith}
use native.Mathlib.Nat.{le_trans}
use mathlib.Core.Path.{refl}
use Rattle.std.specs.Prelude.{Option, None, Some}
use Rattle.spec.specs.declared.Rate.{Rate}
use Rattle.schedule.specs.Schedules.{Schedule, minute, stretch}
use Rattle.schedule.specs.Timed.{timed_stretch, timed_gap, planned}
use Rattle.schedule.specs.Rules.{SupplyKept}
use Rattle.schedule.proofs.Before.{minute_more, minute_least}
use Rattle.schedule.proofs.Timed.{Within, within, planned_stretch}
use Rattle.duty.specs.Weeks.{Table, IsTable, open_before}
use Rattle.duty.specs.Runs.{on_duty}
use Rattle.duty.proofs.OpenMinutes.{before_some, calendar_iff, calendar_apart, calendar_least}
use Rattle.duty.proofs.Tables.{table_facts}

module _ (table : Table) (valid : IsTable table) (s : Schedule) where
  some : 0 < open_before table 10_080
  some = (table_facts table valid).1

  pub duty_gap : (i : ℕ) → s.gap i ≤ timed_gap (on_duty table s) i
  duty_gap i =
      let more = minute_more s i in
      let apart = calendar_apart table some (minute s i) (minute s (i + 1)) (omega arith) in
      omega arith

  module _ (later : (i : ℕ) → 1 ≤ s.gap i) where
    -- so that no report is before the minute of its number, and a stretch is a plain sum
    pub duty_later : (i : ℕ) → i ≤ (on_duty table s).minute i
    duty_later i = le_trans (minute_least s later i) (calendar_least table some (minute s i))

    in_duty : (a w i : ℕ) → Within (on_duty table s) a w i → Within (planned s) (open_before table a) w i
    in_duty a w i h =
        let from = (calendar_iff table some a (minute s i)).1 in
        let until = (calendar_iff table some (a + w) (minute s i)).0 h.1 in
        let few = (before_some table a w).1 in
        (grind arith, omega arith)

    duty_most : (a w : ℕ) → timed_stretch (on_duty table s) a w ≤ stretch s (open_before table a) w
    duty_most a w =
        rw (← planned_stretch s (open_before table a) w)
        (within (on_duty table s) (planned s) (λ i. refl) (minute_least s later) a w (open_before table a) w (in_duty a w))

    pub duty_supply : (rate : Option Rate) → SupplyKept rate (stretch s) → SupplyKept rate (timed_stretch (on_duty table s))
    duty_supply None h = tt
    duty_supply (Some x) h = λ a. le_trans (duty_most a x.minutes) (h (open_before table a))
