-- The three demands as theorems, for every specification, cycle, plan and file. That each function gives what its definition says is
-- its own contract; here is what the definitions promise. `demands` of proofs/Demands.antt proves all of it.
use Rattle.std.specs.Prelude.{ℕ, ◌+◌, ◌-◌, ◌*◌, ◌/◌, ◌%◌, ◌≤◌, ◌<◌, ◌≡◌, ◌↔◌, ◌⊎◌, true, false, List, [], ◌++◌, length, take, get_or, None, Some, Ok, Err}
use Rattle.numbers.specs.Numbers.{ceil}
use Rattle.spec.specs.declared.Spec.{Spec}
use Rattle.spec.specs.declared.Rate.{Rate}
use Rattle.spec.specs.declared.Rates.{Rates}
use Rattle.spec.specs.Rates.{HasTwoRanges, both_rates}
use Rattle.spec.specs.Limits.{rate_of, range_of, limits, order, spec_number, IsAccepted, gap_allowed}
use Rattle.spec.specs.File.{read_spec}
use Rattle.schedule.specs.Schedules.{Schedule, sum, InRounds, minute, begun_at, stretch, in_stretch, share}
use Rattle.schedule.specs.Moments.{IsLast, IsNearest, counted}
use Rattle.schedule.specs.Timed.{Timed, timed_share, timed_stretch, timed_gap, planned}
use Rattle.schedule.specs.Rules.{SizesAllowed, GapsAllowed, SupplyKept, Obeys, TimedObeys, SizeBroken, GapBroken, TooFull, TooThin, Breaks}
use Rattle.lateness.specs.Delays.{delayed, EveryDelay, SomeDelay}
use Rattle.lateness.specs.PlannedSpec.{planned_spec}
use Rattle.duty.specs.Weeks.{Table, day_right, is_open, open_before, table_number, IsTable}
use Rattle.duty.specs.Minutes.{calendar_minute, calendar_of, duty_of, table_of}
use Rattle.duty.specs.Runs.{on_duty}
use Rattle.plan.specs.declared.Kind.TheVariants.{Even}
use Rattle.plan.specs.declared.Plan.{Plan}
use Rattle.plan.specs.Plans.{proper, run}
use Rattle.plan.specs.Reports.{report_at, report_of}
use Rattle.plan.specs.Moments.{contents_of, last_of, nearest_of, between_of}
use Rattle.consistency.specs.declared.Condition.TheVariants.{FewestReportsFitBudget}
use Rattle.consistency.specs.Consistency.{inconsistent, refused, consistency_of}
use Rattle.families.specs.declared.Family.{Family}
use Rattle.families.specs.declared.Family.TheVariants.{MinimumDemand, MaximumSupply}
use Rattle.families.specs.Families.{schedule_of, schedule_for}
use Rattle.feasibility.specs.Test.{family_of, figure_passes, test_of, BestOfAll}
use Rattle.even.specs.Even.{even_plan, evenly}
use Rattle.boxplan.specs.BoxPlan.{box_plan}
use Rattle.boxplan.specs.OneGapCycles.{OneGapCycle, plan_gap}
use Rattle.tolerance.specs.declared.Late.{Late}
use Rattle.tolerance.specs.Tolerance.{tolerance, tolerant_plan}
use Rattle.planfile.specs.PlanFile.{plan_pairs, plan_file, file_after}
use Rattle.pairs.specs.declared.Pair.{Pair}
use Rattle.cycle.specs.Cycles.{pair_gap, cycle_run, round, round_records}
use Rattle.cycle.specs.Check.{check_number, check_file_number}
use Rattle.cycle.specs.LateCheck.{late_number, late_file_number}
use Rattle.cycle.specs.declared.Row.{Row}
use Rattle.cycle.specs.declared.margins.Margins.{Margins}
use Rattle.cycle.specs.Margins.{margins_of, IsMost, IsLeast, AboveB, BelowL}
use Rattle.cycle.specs.Shortest.{shows_full, shows_thin, shortest_stretch, IsGiven}
use Rattle.normal.specs.Normal.{in_order, normal_form}
use Rattle.normal.specs.Answers.{normalised, places_after}
use Rattle.cost.specs.Prices.{charge, FirstBand, tenths, cents}
use Rattle.cost.specs.Bills.{bill_at, plan_bill, cycle_bill}
use Rattle.cyclefile.specs.File.{bytes_of, cycle_bytes, read_cycle, write_number, Reads, bytes_after, AreBytes, Words}
use Rattle.dated.specs.declared.InForce.{InForce}
use Rattle.dated.specs.declared.InForce.TheVariants.{First, Second}
use Rattle.dated.specs.InForce.{issue_day, read_dated, in_force, part_in_force, Readable, swapped}
use Rattle.meter.specs.declared.Meter.{Meter}
use Rattle.meter.specs.Plain.{Report, records_at, ending_with, plain_answers, accepted_onto}
use Rattle.meter.specs.Ring.{fresh, stepped, meter_answers, meter_after}
use Rattle.maxeltu.specs.Verdict.{verdict_of}

-- What each number of the check with lateness J says of a cycle (document 02, Req 09). Each report is delayed by a number of minutes of its own,
-- from 0 to J, report 0's too, and the delayed minutes stand for the planned ones.
pub record LateNumbers (s : Spec) (lateness : ℕ) (c : List Pair) : Type 0 where
  -- 0: the delayed run obeys the four rules at every starting minute from 0 on, however the reports are delayed
  pub late_passed : (late_number s lateness c ≡ 0) ↔ EveryDelay lateness (cycle_run c) (TimedObeys s)
  -- 13: some delays make a gap that is not allowed
  pub late_gap : (late_number s lateness c ≡ 13) ↔ SomeDelay lateness (cycle_run c) (λ t. GapBroken s (timed_gap t))
  -- 14, where no delays do: some size is not allowed
  pub late_size : (late_number s lateness c ≡ 14) ↔ (EveryDelay lateness (cycle_run c) (λ t. GapsAllowed s (timed_gap t)) × SizeBroken s (cycle_run c).size)
  -- 15, where all gaps and sizes are allowed: with some delays some R minutes hold more than B
  pub late_full : (late_number s lateness c ≡ 15)
      ↔ (EveryDelay lateness (cycle_run c) (λ t. GapsAllowed s (timed_gap t))
      × SizesAllowed s (cycle_run c).size
      × SomeDelay lateness (cycle_run c) (λ t. TooFull s.supply (timed_stretch t)))
  -- 16, where moreover no delays make any R minutes too full: with some delays some P minutes hold fewer than L
  pub late_thin : (late_number s lateness c ≡ 16)
      ↔ (EveryDelay lateness (cycle_run c) (λ t. GapsAllowed s (timed_gap t))
      × SizesAllowed s (cycle_run c).size
      × EveryDelay lateness (cycle_run c) (λ t. SupplyKept s.supply (timed_stretch t))
      × SomeDelay lateness (cycle_run c) (λ t. TooThin s.demand (timed_stretch t)))

-- What holds of a schedule that is run on duty minutes (document 02, Req 11): report i at the calendar minute of its duty minute.
pub record KeptOnDuty (table : Table) (s : Spec) (t : Schedule) : Type 0 where
  -- any R calendar minutes, whatever minute from 0 on they begin at, hold at most B
  pub duty_supply : SupplyKept s.supply (timed_stretch (on_duty table t))
  -- and from each report to the next it is at least smin calendar minutes
  pub duty_gaps : (i : ℕ) → s.smin ≤ timed_gap (on_duty table t) i
  -- "L, P and smax are read in duty minutes": the duty minute of report i is its minute in the schedule, which obeys all four rules
  pub duty_minutes : (i : ℕ) → duty_of table ((on_duty table t).minute i) ≡ Ok (minute t i)
  pub duty_rules : Obeys s t

pub record Demands : Type 0 where
  -- 1. Any bytes handed in, of any length, are read to their contents or to the numbered refusal. A refusal writes to no lent list or bytes.

  pub specification_read : (bytes : List ℕ)
      → ((s : Spec) × ((read_spec bytes ≡ Ok s) × IsAccepted s))
      ⊎ ((n : ℕ) × ((read_spec bytes ≡ Err n) × (((1 ≤ n) × (n ≤ 4)) ⊎ (n ≡ 24))))
  pub cycle_read : (places : ℕ) (file : List ℕ)
      → ((c : List Pair) × ((read_cycle places file ≡ Ok c) × ((1 ≤ length c) × ((length c ≤ 512) × (length c ≤ places)))))
      ⊎ ((n : ℕ) × ((read_cycle places file ≡ Err n) × ((n ≡ 12) ⊎ ((17 ≤ n) × (n ≤ 21)))))
  -- Cut off or too long (document 02, Req 01). A file that is read, cut off anywhere, gets 18.
  pub cut_off : (places : ℕ) (file : List ℕ) (c : List Pair) (n : ℕ) → read_cycle places file ≡ Ok c → n < length file → read_cycle places (take n file) ≡ Err 18
  -- 21 is given exactly to a file that is read, with bytes behind it
  pub bytes_over : (places : ℕ) (file : List ℕ)
      → (read_cycle places file ≡ Err 21)
      ↔ ((front : List ℕ) × ((over : List ℕ) × ((c : List Pair) × ((file ≡ front ++ over) × ((read_cycle places front ≡ Ok c) × (0 < length over))))))
  -- a number other than 18 stays, whatever bytes follow: a file with a wrong pair and bytes over gets the pair's number
  pub number_stays : (places : ℕ) (file more : List ℕ) (n : ℕ) → read_cycle places file ≡ Err n → ¬ (n ≡ 18) → read_cycle places (file ++ more) ≡ Err n
  -- a dated file (document 02, Req 13) is judged with 512 places, so that it never gets 20
  pub dated_read : (file : List ℕ) → Readable file ⊎ ((n : ℕ) × (read_dated file ≡ Err n) × ((n ≡ 12) ⊎ (((17 ≤ n) × (n ≤ 19)) ⊎ (n ≡ 21))))
  pub refused_list_kept : (file : List ℕ) (held held' : List Pair) (count count' n : ℕ)
      → Reads (read_cycle (length held) file) held count n held' count' → 0 < n → (held' ≡ held) × (count' ≡ count)
  pub refused_bytes_kept : (c : List Pair) (held : List ℕ)
      → 0 < write_number (length held) c → bytes_after c held ≡ held
  -- nor does a normal form that is refused (document 02, Req 12)
  pub refused_places_kept : (c held : List Pair) (n : ℕ) → normalised (length held) c ≡ Err n → places_after c held ≡ held
  -- nor does a plan that is not written out
  pub refused_file_kept : (p : Plan) (held : List ℕ) (n : ℕ) → plan_file (length held) p ≡ Err n → file_after (plan_file (length held) p) held ≡ held
  -- an offer that is refused leaves the meter as it was (document 02, Req 03), whatever the meter holds
  pub refused_meter_kept : (m : Meter) (t d : ℕ) → 0 < (stepped m t d).answer.number → (stepped m t d).meter ≡ m
  -- 2. The figures are those that document 01 defines, over every stretch and every k.

  -- A second range of gaps (document 02, Req 06). A gap is allowed exactly when it is in either range.
  pub gap_in_either : (s : Spec) (g : ℕ)
      → (gap_allowed s g ≡ true)
      ↔ (((s.smin ≤ g) × (g ≤ s.smax)) ⊎ ((lo : ℕ) × (hi : ℕ) × (s.second ≡ Some (range_of lo hi)) × (lo ≤ g) × (g ≤ hi)))
  -- 24 is given exactly where 3 and 4 are not and the second range starts at smax or below it: ranges that touch are accepted
  pub ranges_apart : (s : Spec)
      → (spec_number s ≡ 24)
      ↔ ((limits s ≡ true) × (order s ≡ true) × ((lo : ℕ) × (hi : ℕ) × (s.second ≡ Some (range_of lo hi)) × (lo ≤ s.smax)))
  -- consistency, a schedule for any k and the test give 25 exactly to an accepted specification with a second range
  pub two_ranges_turned_away : (s : Spec)
      → ((consistency_of s ≡ Err (refused 25)) ↔ HasTwoRanges s)
      × ((f : Family) (k : ℕ) → (schedule_for f s k ≡ Err 25) ↔ HasTwoRanges s)
      × ((test_of s ≡ Err (refused 25)) ↔ HasTwoRanges s)
  -- a stretch holds, summed, the sizes of the reports at its minutes, however many reports are looked at: every stretch below is such a sum
  pub stretch_sum : (s : Schedule) → ((i : ℕ) → 1 ≤ s.gap i) → (a w more : ℕ) → stretch s a w ≡ sum (share s a w) (a + w + more)
  -- so does a stretch of reports at given minutes (document 02, Req 09), where report i is at minute i or later; a schedule with no gap 0, however
  -- its reports are delayed, is such a one
  pub timed_sum : (t : Timed) → ((i : ℕ) → i ≤ t.minute i) → (a w more : ℕ) → timed_stretch t a w ≡ sum (timed_share t a w) (a + w + more)
  pub delayed_later : (s : Schedule) → ((i : ℕ) → 1 ≤ s.gap i) → (delay : ℕ → ℕ) (i : ℕ) → i ≤ (delayed s delay).minute i
  -- and so is one that is run on duty minutes (document 02, Req 11)
  pub on_duty_later : (table : Table) (s : Schedule) → IsTable table → ((i : ℕ) → 1 ≤ s.gap i) → (i : ℕ) → i ≤ (on_duty table s).minute i
  -- for a schedule's own minutes it is the stretch above, and the four rules are the schedule's
  pub own_minutes : (s : Schedule) (a w : ℕ) → timed_stretch (planned s) a w ≡ stretch s a w
  pub own_rules : (spec : Spec) (s : Schedule) → TimedObeys spec (planned s) ↔ Obeys spec s
  -- Checking a cycle without doubling it (document 02, Req 04). Of every cycle of 1 to 512 pairs, or more, with no gap 0, in or out of any range,
  -- any stretch holds its whole rounds times the records of a round, and what the minutes left over, fewer than a round's, hold.
  pub whole_rounds : (c : List Pair) → 1 ≤ length c → ((j : ℕ) → j < length c → 1 ≤ pair_gap c j) → (a w : ℕ)
      → (w % round c < round c) × (stretch (cycle_run c) a w ≡ w / round c * round_records c + stretch (cycle_run c) a (w % round c))
  -- the required supply is what minutes 0 to R - 1 hold, and no stretch of R minutes holds more
  pub required_supply : (s : Spec) (q : Rates) (k : ℕ) (p : Plan) (v : ℕ) → both_rates s ≡ Ok q → schedule_for MinimumDemand s k ≡ Ok (schedule_of p v)
      → (stretch (run p) 0 q.r ≡ v) × ((a : ℕ) → stretch (run p) a q.r ≤ v)
  -- the available supply is the least that any stretch of P minutes holds
  pub available_supply : (s : Spec) (q : Rates) (k : ℕ) (p : Plan) (v : ℕ) → both_rates s ≡ Ok q → schedule_for MaximumSupply s k ≡ Ok (schedule_of p v)
      → ((a : ℕ) → v ≤ stretch (run p) a q.p) × ((a : ℕ) × (stretch (run p) a q.p ≡ v))
  -- the test's schedule has the best figure over all k, and of equals the smallest k
  pub test_best : (s : Spec) (q : Rates) (p : Plan) (v : ℕ) → both_rates s ≡ Ok q → test_of s ≡ Ok (schedule_of p v) → BestOfAll (family_of q) s p v
  -- Condition 4 follows the carrier's count (document 02, Req 07). R minutes that begin with a report hold at least ⌈R/smax⌉ reports, in every
  -- schedule with no gap 0 and none above smax; so no schedule at all obeys a specification that condition 4 turns away.
  pub carriers_count : (t : Schedule) (smax : ℕ) → ((i : ℕ) → (1 ≤ t.gap i) × (t.gap i ≤ smax)) → (i r : ℕ) → ceil r smax ≤ stretch (counted t) (minute t i) r
  pub condition_4_needed : (s : Spec) → consistency_of s ≡ Err (inconsistent FewestReportsFitBudget) → (t : Schedule) → ¬ Obeys s t
  -- the test finds some k for every consistent specification, which is an accepted one, with both rates: there is a best of all k, and where its
  -- figure passes the test passes it, else it gives 9
  pub test_finds : (s : Spec) (q : Rates) → both_rates s ≡ Ok q → consistency_of s ≡ Ok tt
      → (p : Plan) × (v : ℕ) × BestOfAll (family_of q) s p v
      × (((test_of s ≡ Ok (schedule_of p v)) × (figure_passes (family_of q) q v ≡ true)) ⊎ ((test_of s ≡ Err (refused 9)) × (figure_passes (family_of q) q v ≡ false)))
  -- so beside 7 it has no numbers but 3 to 5, 9, 24 and 25: 8 is given to nobody
  pub test_numbers : (s : Spec) (n : ℕ) → test_of s ≡ Err (refused n) → ((3 ≤ n) × (n ≤ 5)) ⊎ ((n ≡ 9) ⊎ ((24 ≤ n) × (n ≤ 25)))
  -- report i of a proper plan is report i of its endless run, for every i without upper end
  pub every_report : (p : Plan) (i : ℕ) → proper p ≡ true → report_of p i ≡ Ok (report_at (minute (run p) i) ((run p).size i))
  -- The first report is the fuller one (document 02, Req 02). In a plan of either kind no report is fuller than report 0, and no stretch
  -- fuller than as many minutes from minute 0 on.
  pub fuller_first : (p : Plan) → proper p ≡ true → ((i : ℕ) → (run p).size i ≤ (run p).size 0) × ((a w : ℕ) → stretch (run p) a w ≤ stretch (run p) 0 w)
  -- n reports in a row of an even plan, from any report i on, hold between ⌊n × δ/k⌋ and ⌈n × δ/k⌉ records
  pub even_rows : (p : Plan) → proper p ≡ true → p.kind ≡ Even → (i n : ℕ)
      → (n * p.total / p.count ≤ sum (λ j. (run p).size (i + j)) n) × (sum (λ j. (run p).size (i + j)) n ≤ ceil (n * p.total) p.count)
  -- and k in a row hold δ, of either kind
  pub any_period : (p : Plan) → proper p ≡ true → (i : ℕ) → sum (λ j. (run p).size (i + j)) p.count ≡ p.total
  -- From a minute back to the report (document 02, Req 05), of either kind and at every minute. The last report at or before minute m is the
  -- greatest i whose minute is at most m; it is told of every proper plan, and of no other.
  pub last_report_lem : (p : Plan) (m i : ℕ) → (last_of p m ≡ Ok i) ↔ ((proper p ≡ true) × IsLast (run p) m i)
  -- no report is nearer than the nearest, and none as near is before it
  pub nearest_report_lem : (p : Plan) (m i : ℕ) → (nearest_of p m ≡ Ok i) ↔ ((proper p ≡ true) × IsNearest (run p) m i)
  -- going from report i to its minute and back gives i
  pub there_and_back : (p : Plan) (i m d : ℕ) → report_of p i ≡ Ok (report_at m d) → (last_of p m ≡ Ok i) × (nearest_of p m ≡ Ok i)
  -- What lies from minute a up to but not including b is told of every proper plan with b not before a, and of no other: the sums over the
  -- reports at those minutes, of 1 and of their sizes, however many reports are looked at.
  pub between_sums : (p : Plan) (a b reports records : ℕ)
      → (between_of p a b ≡ Ok (contents_of reports records))
      ↔ ((proper p ≡ true)
      × ((a ≤ b)
      × ((more : ℕ) → (reports ≡ sum (share (counted (run p)) a (b - a)) (b + more)) × (records ≡ sum (share (run p) a (b - a)) (b + more)))))
  -- from a to b and from b to c is from a to c
  pub counts_add_up : (p : Plan) (a b c n d n' d' : ℕ) → between_of p a b ≡ Ok (contents_of n d) → between_of p b c ≡ Ok (contents_of n' d') → between_of p a c ≡ Ok (contents_of (n + n') (d + d'))
  -- What a plan costs (document 02, Req 08). Of numbers that repeat after c, the sum over n is n / c times the sum over c, and the sum over
  -- n mod c. By this one law go the charges, the records and the minutes of the first n reports, of every proper plan and of every cycle.
  pub repeated_sum : (f : ℕ → ℕ) (c : ℕ) → ((i : ℕ) → f (i + c) ≡ f i) → InRounds c (sum f)
  pub plan_in_rounds : (p : Plan) → proper p ≡ true
      → InRounds p.count (tenths (run p)) × InRounds p.count (sum (run p).size) × InRounds p.count (minute (run p))
  pub cycle_in_rounds : (c : List Pair)
      → InRounds (length c) (tenths (cycle_run c)) × InRounds (length c) (sum (cycle_run c).size) × InRounds (length c) (minute (cycle_run c))
  -- a bill is told of every proper plan and of every cycle that is passed, and of no other
  pub plan_billed : (p : Plan) (n t m : ℕ) → (plan_bill p n ≡ Ok (bill_at t m)) ↔ ((proper p ≡ true) × (t ≡ tenths (run p) n) × (m ≡ cents t))
  pub cycle_billed : (s : Spec) (c : List Pair) (n t m : ℕ)
      → (cycle_bill s c n ≡ Ok (bill_at t m)) ↔ ((check_number s c ≡ 0) × (t ≡ tenths (cycle_run c) n) × (m ≡ cents t))
  -- no report that is billed is above the last band: each is charged the price of the first band that its size does not exceed
  pub plan_in_bands : (p : Plan) (n t m : ℕ) → plan_bill p n ≡ Ok (bill_at t m) → (i : ℕ) → FirstBand ((run p).size i) (charge ((run p).size i))
  pub cycle_in_bands : (s : Spec) (c : List Pair) (n t m : ℕ) → cycle_bill s c n ≡ Ok (bill_at t m) → (i : ℕ)
      → FirstBand ((cycle_run c).size i) (charge ((cycle_run c).size i))
  -- Duty hours (document 02, Req 11). A table is valid exactly when each of its seven days keeps the rules and some minute is open; every other one
  -- gets 27, and so do numbers that are not 28.
  pub table_valid : (table : Table) → IsTable table ↔ (((k : ℕ) → k < 7 → day_right (get_or table k []) ≡ true) × ((m : ℕ) × (is_open table m ≡ true)))
  pub table_27 : (table : Table) → ¬ IsTable table → table_number table ≡ 27
  pub other_count : (numbers : List ℕ) → ¬ (length numbers ≡ 28) → table_number (table_of numbers) ≡ 27
  -- The calendar minute of duty minute d is the open minute with d open ones before it, and the duty minute of an open minute is the number of
  -- those before it: at every minute without upper end. So each is told exactly where the other is, and undoes it.
  pub calendar_of_duty : (table : Table) (d m : ℕ) → (calendar_of table d ≡ Ok m) ↔ (IsTable table × (is_open table m ≡ true) × (open_before table m ≡ d))
  pub duty_of_calendar : (table : Table) (m d : ℕ) → (duty_of table m ≡ Ok d) ↔ (IsTable table × (is_open table m ≡ true) × (open_before table m ≡ d))
  pub one_undoes_the_other : (table : Table) (d m : ℕ) → (calendar_of table d ≡ Ok m) ↔ (duty_of table m ≡ Ok d)
  -- every duty minute has its calendar minute, unless the table gets 27; 28 is given exactly to a closed minute of a valid table
  pub calendar_27 : (table : Table) (d : ℕ) → (calendar_of table d ≡ Err 27) ↔ (¬ IsTable table)
  pub every_duty_minute : (table : Table) (d : ℕ) → IsTable table → calendar_of table d ≡ Ok (calendar_minute table d)
  pub duty_27 : (table : Table) (m : ℕ) → (duty_of table m ≡ Err 27) ↔ (¬ IsTable table)
  pub duty_28 : (table : Table) (m : ℕ) → (duty_of table m ≡ Err 28) ↔ (IsTable table × (is_open table m ≡ false))
  -- the conversion never falls, and keeps distances or lengthens them: from a duty minute to a later one it is as many calendar minutes, or more
  pub distances_kept : (table : Table) (d e : ℕ) → IsTable table → d ≤ e → calendar_minute table d + (e - d) ≤ calendar_minute table e
  -- Are these the same cycle? (document 02, Req 12) Two cycles, with any gaps and sizes, have equal normal forms exactly when the endless run of
  -- one, begun at some report, is that of the other.
  pub same_cycle : (c d : List Pair) → 1 ≤ length c → 1 ≤ length d → (normal_form c ≡ normal_form d) ↔ ((k : ℕ) × (cycle_run d ≡ begun_at (cycle_run c) k))
  -- The normal form is a cycle of as many pairs or fewer, whose run is the cycle's, begun at some report. Of all cycles of which this is said
  -- none has fewer pairs, and none with as many comes before it, pair by pair, in the order by gap, then size.
  pub normal_run : (c : List Pair) → 1 ≤ length c
      → (1 ≤ length (normal_form c)) × (length (normal_form c) ≤ length c) × ((k : ℕ) × (cycle_run (normal_form c) ≡ begun_at (cycle_run c) k))
  pub normal_least : (c d : List Pair) (k : ℕ) → 1 ≤ length c → 1 ≤ length d → cycle_run d ≡ begun_at (cycle_run c) k
      → (length (normal_form c) ≤ length d) × (length (normal_form c) ≡ length d → in_order (normal_form c) d ≡ true)
  -- that is an order: of two lists one is in order before the other, both ways only where they are the same, and on from list to list
  pub order_total : (c d : List Pair) → (in_order c d ≡ true) ⊎ (in_order d c ≡ true)
  pub order_antisymmetric : (c d : List Pair) → in_order c d ≡ true → in_order d c ≡ true → c ≡ d
  pub order_transitive : (c d e : List Pair) → in_order c d ≡ true → in_order d e ≡ true → in_order c e ≡ true
  -- normalising twice changes nothing
  pub normal_twice : (c : List Pair) → 1 ≤ length c → normal_form (normal_form c) ≡ normal_form c
  -- 12 is given exactly where there are not 1 to 512 pairs, else 20 exactly where the lent list has fewer places than the normal form has pairs,
  -- and no other number
  pub normal_numbers : (c : List Pair) (places n : ℕ)
      → (normalised places c ≡ Err n)
      ↔ (((n ≡ 12) × ¬ ((1 ≤ length c) × (length c ≤ 512))) ⊎ ((n ≡ 20) × (1 ≤ length c) × (length c ≤ 512) × (places < length (normal_form c))))
  -- a written cycle reads back as itself
  pub reads_back : (places : ℕ) (c : List Pair) → 1 ≤ length c → length c ≤ 512 → length c ≤ places → read_cycle places (cycle_bytes c) ≡ Ok c
  -- what is written of 16-bit numbers is made of bytes
  pub written_bytes : (c : List Pair) → length c ≤ 512 → Words c → AreBytes (cycle_bytes c)
  -- a file that is read is the one that the writer makes of its contents
  pub writes_back : (places : ℕ) (file : List ℕ) (c : List Pair) → AreBytes file → read_cycle places file ≡ Ok c → cycle_bytes c ≡ file
  -- Which file is in force (document 02, Req 13). An issue day before a written cycle's file reads back as both; and a dated file that is read is
  -- its day before the file that the writer makes of its contents.
  pub dated_reads_back : (day : ℕ) (c : List Pair) → 1 ≤ length c → length c ≤ 512
      → (issue_day (bytes_of day ++ cycle_bytes c) ≡ day) × (read_dated (bytes_of day ++ cycle_bytes c) ≡ Ok c)
  pub dated_writes_back : (file : List ℕ) (c : List Pair) → AreBytes file → read_dated file ≡ Ok c → bytes_of (issue_day file) ++ cycle_bytes c ≡ file
  -- The first file is told exactly where it can be read, and the second can't, or has an earlier day, or is equal to it; the second exactly
  -- where it can be read, and the first can't, or has an earlier day.
  pub in_force_first : (a b : List ℕ) → (in_force a b ≡ Ok First) ↔ (Readable a × (¬ (Readable b) ⊎ ((issue_day b < issue_day a) ⊎ (a ≡ b))))
  pub in_force_second : (a b : List ℕ) → (in_force a b ≡ Ok Second) ↔ (Readable b × (¬ (Readable a) ⊎ (issue_day a < issue_day b)))
  -- 29 is given exactly where both can be read, have the same day and differ; any other number exactly where neither can be read, and it is
  -- the first file's
  pub in_force_numbers : (a b : List ℕ) (n : ℕ)
      → (in_force a b ≡ Err n)
      ↔ (((read_dated a ≡ Err n) × ¬ (Readable b)) ⊎ ((n ≡ 29) × Readable a × Readable b × (issue_day a ≡ issue_day b) × ¬ (a ≡ b)))
  -- the part handed back is empty exactly at a refusal, reads as a cycle exactly when a file is told,
  pub part_empty : (a b : List ℕ) → (part_in_force a b ≡ []) ↔ ((n : ℕ) × (in_force a b ≡ Err n))
  pub part_reads : (a b : List ℕ) → ((c : List Pair) × (read_cycle 512 (part_in_force a b) ≡ Ok c)) ↔ ((w : InForce) × (in_force a b ≡ Ok w))
  -- and then it is the file that the writer makes of its contents
  pub part_written : (a b : List ℕ) (c : List Pair) → AreBytes a → AreBytes b → read_cycle 512 (part_in_force a b) ≡ Ok c → cycle_bytes c ≡ part_in_force a b
  -- The order of the two files matters only where they are equal or both unreadable: else the same file is told, or the same number. To the bytes of
  -- the part it never matters.
  pub either_order : (a b : List ℕ) → ¬ (a ≡ b) → Readable a ⊎ Readable b → in_force b a ≡ swapped (in_force a b)
  pub same_part : (a b : List ℕ) → part_in_force b a ≡ part_in_force a b
  -- A budget meter in the box (document 02, Req 03). For every list of offers to a fresh meter of an accepted specification, each answer, its
  -- number and its budget left, is the plain machine's.
  pub meter_answers_lem : (s : Spec) (offers : List Report) → IsAccepted s → meter_answers (fresh s) offers ≡ plain_answers s [] offers
  -- no R minutes, from whatever start, hold more than B records of the offers that the meter has accepted, nor do the R minutes that end with
  -- whatever minute: so the budget left, B less what these hold, is never cut off at 0
  pub meter_budget : (s : Spec) (b r : ℕ) (offers : List Report) → IsAccepted s → s.supply ≡ Some (rate_of b r)
      → ((a : ℕ) → records_at (in_stretch a r) (accepted_onto [] offers (meter_answers (fresh s) offers)) ≤ b)
      × ((t : ℕ) → records_at (ending_with r t) (accepted_onto [] offers (meter_answers (fresh s) offers)) ≤ b)
  -- it holds 1,024 reports at most, and with no supply rate one
  pub meter_holds : (s : Spec) (offers : List Report) → IsAccepted s
      → ((meter_after (fresh s) offers).count ≤ 1_024) × (s.supply ≡ None → (meter_after (fresh s) offers).count ≤ 1)
  -- 3. For every accepted specification:

  -- a cycle of 1 to 512 pairs is passed exactly when its endless run obeys the four rules at every starting minute from 0 on
  pub cycle_passed : (s : Spec) (c : List Pair) → IsAccepted s → 1 ≤ length c → length c ≤ 512 → (check_number s c ≡ 0) ↔ Obeys s (cycle_run c)
  -- Reports that arrive late (document 02, Req 09). Any schedule obeys the rules however its reports are delayed, each by 0 to J minutes of its
  -- own, exactly when it obeys, on time, those that planned minutes must meet: which allow a gap exactly when every gap from J less to J
  -- more than it is allowed.
  pub late_planned : (s : Spec) (lateness : ℕ) (t : Schedule) → IsAccepted s → EveryDelay lateness t (TimedObeys s) ↔ Obeys (planned_spec s lateness) t
  pub late_gap_near : (s : Spec) (lateness g : ℕ) → IsAccepted s
      → (gap_allowed (planned_spec s lateness) g ≡ true) ↔ ((x : ℕ) → g - lateness ≤ x → x ≤ g + lateness → gap_allowed s x ≡ true)
  -- of a cycle of 1 to 512 pairs, for a J up to 1,440, each number of the check with lateness has its meaning over every choice of delays
  pub late_numbers : (s : Spec) (lateness : ℕ) (c : List Pair) → IsAccepted s → lateness ≤ 1_440 → 1 ≤ length c → length c ≤ 512 → LateNumbers s lateness c
  -- 26 is given exactly to an accepted specification with a J above that
  pub too_late : (s : Spec) (lateness : ℕ) (c : List Pair) → (late_number s lateness c ≡ 26) ↔ (IsAccepted s × (1_440 < lateness))
  -- with J = 0 it is the check as it was, and what is passed for some J is passed for every smaller one
  pub on_time : (s : Spec) (c : List Pair) → late_number s 0 c ≡ check_number s c
  pub late_less : (s : Spec) (less more : ℕ) (c : List Pair) → less ≤ more → late_number s more c ≡ 0 → late_number s less c ≡ 0
  -- Every check gives a cycle and its normal form the same number (document 02, Req 12), against every specification and with every lateness.
  pub normal_number : (s : Spec) (lateness : ℕ) (c : List Pair) → 1 ≤ length c → length c ≤ 512
      → (check_number s (normal_form c) ≡ check_number s c) × (late_number s lateness (normal_form c) ≡ late_number s lateness c)
  -- So does every check against a specification's file, whatever its bytes, and the loader's call, given the files of both.
  pub normal_file_number : (spec : List ℕ) (lateness : ℕ) (c : List Pair) → 1 ≤ length c → length c ≤ 512
      → (check_file_number (read_spec spec) (normal_form c) ≡ check_file_number (read_spec spec) c)
      × (late_file_number (read_spec spec) lateness (normal_form c) ≡ late_file_number (read_spec spec) lateness c)
      × (verdict_of spec (cycle_bytes (normal_form c)) ≡ verdict_of spec (cycle_bytes c))
  -- The shortest stretch to send back (document 02, Req 14). Of a cycle with no gap 0, some R minutes hold more than B exactly when some reports in
  -- a row do whose first and last are less than R minutes apart; some P minutes hold less than L exactly when the reports between some two do
  -- that are more than P minutes apart.
  pub rows_too_full : (x : Rate) (c : List Pair) → 1 ≤ length c → ((j : ℕ) → j < length c → 1 ≤ pair_gap c j)
      → TooFull (Some x) (stretch (cycle_run c)) ↔ ((i : ℕ) × ((n : ℕ) × (shows_full x (cycle_run c) i n ≡ true)))
  pub rows_too_thin : (x : Rate) (c : List Pair) → 1 ≤ length c → ((j : ℕ) → j < length c → 1 ≤ pair_gap c j)
      → TooThin (Some x) (stretch (cycle_run c)) ↔ ((i : ℕ) × ((n : ℕ) × (shows_thin x (cycle_run c) i n ≡ true)))
  -- Whenever the check says 15 or 16 something is given. It shows the refusal, at that number and with that many reports; every other run that shows
  -- it, anywhere in the endless run, has at least as many, and none with as many has a lower number; and the number is below the count of pairs.
  pub shown_15 : (s : Spec) (c : List Pair) → check_number s c ≡ 15 → IsGiven shows_full s.supply c (shortest_stretch s c)
  pub shown_16 : (s : Spec) (c : List Pair) → check_number s c ≡ 16 → IsGiven shows_thin s.demand c (shortest_stretch s c)
  -- they are 20,001 reports at most
  pub few_shown : (s : Spec) (c : List Pair) (row : Row) → shortest_stretch s c ≡ Some row → row.reports ≤ 20_001
  -- a cycle with another answer gets just that, and no other does
  pub none_shown : (s : Spec) (c : List Pair) → (shortest_stretch s c ≡ None) ↔ (¬ (check_number s c ≡ 15) × ¬ (check_number s c ≡ 16))
  -- How close a cycle comes to its limits (the request "How much leeway a cycle has", beyond document 02). No R minutes at any start of the endless run
  -- hold more than the most, no P minutes less than the least; the minutes that begin with the named report, or just after it, hold just that,
  -- and its number is the lowest of all such, and below the count. A rate that is absent has no margin.
  pub margins_right : (s : Spec) (c : List Pair) (m : Margins) → margins_of s c ≡ Ok m
      → IsMost (cycle_run c) (length c) s.supply m.fullest × IsLeast (cycle_run c) (length c) s.demand m.thinnest
  -- they are refused with just those numbers of the check that are not of its stretches
  pub margins_refused : (s : Spec) (c : List Pair) (n : ℕ)
      → (margins_of s c ≡ Err n) ↔ ((check_number s c ≡ n) × ¬ (n ≡ 0) × ¬ (n ≡ 15) × ¬ (n ≡ 16))
  -- so the check gives 15 exactly where the most is above B, and without it 16 exactly where the least is below L
  pub margin_15 : (s : Spec) (c : List Pair) (m : Margins) → margins_of s c ≡ Ok m → (check_number s c ≡ 15) ↔ AboveB s.supply m.fullest
  pub margin_16 : (s : Spec) (c : List Pair) (m : Margins) → margins_of s c ≡ Ok m
      → (check_number s c ≡ 16) ↔ (¬ AboveB s.supply m.fullest × BelowL s.demand m.thinnest)
  -- How late the reports of a cycle may be: it is passed for every lateness up to its tolerance, which is 1,440 at most, and for none above it.
  pub tolerance_is : (s : Spec) (c : List Pair) (most : ℕ) → tolerance s c ≡ Ok most → (most ≤ 1_440) × ((j : ℕ) → (late_number s j c ≡ 0) ↔ (j ≤ most))
  -- it is refused exactly where the check is, with the same number
  pub tolerance_refused : (s : Spec) (c : List Pair) (n : ℕ) → (tolerance s c ≡ Err n) ↔ ((check_number s c ≡ n) × ¬ (n ≡ 0))
  -- the endless run of every plan that the test passed obeys them
  pub test_obeys : (s : Spec) (p : Plan) (v : ℕ) → test_of s ≡ Ok (schedule_of p v) → (proper p ≡ true) × Obeys s (run p)
  -- and so does that of every even plan
  pub even_obeys : (s : Spec) (p : Plan) → even_plan s ≡ Ok p → (proper p ≡ true) × Obeys s (run p)
  -- the even plan is refused exactly when every schedule with one gap breaks a rule, whatever the gap and whatever the endless list of sizes
  pub even_refused : (s : Spec) → IsAccepted s → (even_plan s ≡ Err 10) ↔ ((g : ℕ) (sizes : ℕ → ℕ) → ¬ Obeys s (evenly g sizes))
  -- The even plan sends least (document 02, Req 10). For every endless list of sizes which obeys the rules at the plan's gap, which is π/k, and for
  -- every number j, any j × k reports in a row that don't include report 0 hold at least as many records as the plan sends in j rounds.
  pub even_least : (s : Spec) (p : Plan) → even_plan s ≡ Ok p → (sizes : ℕ → ℕ) → Obeys s (evenly (p.period / p.count) sizes) → (j i : ℕ) → 1 ≤ i
      → sum (run p).size (j * p.count) ≤ sum (λ n. sizes (i + n)) (j * p.count)
  -- That is met: the plan's own sizes are a list which obeys at its gap, and any j × k of its reports in a row, report 0 among them or not, hold
  -- exactly j × δ.
  pub least_met : (s : Spec) (p : Plan) → even_plan s ≡ Ok p
      → Obeys s (evenly (p.period / p.count) (run p).size) × ((j i : ℕ) → sum (λ n. (run p).size (i + n)) (j * p.count) ≡ j * p.total)
  -- with report 0 it is false: of some list which obeys at the gap of some plan, the first k reports hold less than δ
  pub report_0_thinner : (s : Spec) × (p : Plan) × (sizes : ℕ → ℕ)
      × (even_plan s ≡ Ok p) × Obeys s (evenly (p.period / p.count) sizes) × (sum sizes p.count < p.total)
  -- At every longer gap, of either range or of none, each endless list of sizes breaks one of the four rules: at an allowed gap some size is not
  -- allowed, or some R minutes hold more than B, or some P minutes fewer than L. No schedule breaks a rule and obeys.
  pub even_longest : (s : Spec) (p : Plan) → even_plan s ≡ Ok p → (g : ℕ) → p.period / p.count < g → (sizes : ℕ → ℕ) → Breaks s (evenly g sizes)
  pub breaks_not_obeys : (s : Spec) (t : Schedule) → Breaks s t → ¬ Obeys s t
  -- A plan written out as a cycle. The k reports of a proper plan of either kind are k pairs, and the endless run of that cycle is the
  -- plan's: report by report its sizes and its minutes.
  pub plan_written : (p : Plan) → proper p ≡ true → (length (plan_pairs p) ≡ p.count) × (cycle_run (plan_pairs p) ≡ run p)
  pub plan_reports : (p : Plan) (i : ℕ) → proper p ≡ true → ((cycle_run (plan_pairs p)).size i ≡ (run p).size i) × (minute (cycle_run (plan_pairs p)) i ≡ minute (run p) i)
  -- a round of it takes π minutes and holds δ records
  pub plan_round : (p : Plan) → proper p ≡ true → (round (plan_pairs p) ≡ p.period) × (round_records (plan_pairs p) ≡ p.total)
  -- 11 exactly where the plan is not proper, else 12 exactly where it has more than 512 reports, else 20 exactly where its file is longer than the room,
  -- and no other number
  pub plan_file_numbers : (p : Plan) (room n : ℕ)
      → (plan_file room p ≡ Err n)
      ↔ (((n ≡ 11) × (proper p ≡ false))
      ⊎ (((n ≡ 12) × (proper p ≡ true) × (512 < p.count)) ⊎ ((n ≡ 20) × (proper p ≡ true) × (p.count ≤ 512) × (room < length (cycle_bytes (plan_pairs p))))))
  -- the file reads back as the pairs, and is made of bytes; and the loader's call gives it 0 exactly where the plan obeys the rules
  pub plan_reads_back : (p : Plan) → proper p ≡ true → p.count ≤ 512
      → (read_cycle 512 (cycle_bytes (plan_pairs p)) ≡ Ok (plan_pairs p)) × AreBytes (cycle_bytes (plan_pairs p))
  pub plan_loads : (spec : List ℕ) (s : Spec) (p : Plan) → read_spec spec ≡ Ok s → proper p ≡ true → p.count ≤ 512
      → (verdict_of spec (cycle_bytes (plan_pairs p)) ≡ 0) ↔ Obeys s (run p)
  -- The box plan of a specification for a lateness. It is proper, its cycle has 1 to 512 pairs with one gap throughout, and the check with that
  -- lateness passes it: so its endless run obeys the rules however the reports are delayed, and the loader's call gives its file 0.
  pub box_passed : (s : Spec) (lateness : ℕ) (p : Plan) → box_plan s lateness ≡ Ok p
      → (proper p ≡ true) × OneGapCycle (plan_gap p) (plan_pairs p) × (late_number s lateness (plan_pairs p) ≡ 0)
  pub box_obeys : (s : Spec) (lateness : ℕ) (p : Plan) → box_plan s lateness ≡ Ok p → EveryDelay lateness (run p) (TimedObeys s)
  pub box_loads : (spec : List ℕ) (s : Spec) (lateness : ℕ) (p : Plan) → read_spec spec ≡ Ok s → box_plan s lateness ≡ Ok p
      → verdict_of spec (cycle_bytes (plan_pairs p)) ≡ 0
  -- At every longer gap each cycle of 1 to 512 pairs with that one gap fails. At its gap no cycle with fewer pairs passes, and none that passes with
  -- as many pairs holds fewer records.
  pub box_longest : (s : Spec) (lateness : ℕ) (p : Plan) → box_plan s lateness ≡ Ok p → (g : ℕ) (c : List Pair) → OneGapCycle g c → plan_gap p < g
      → ¬ (late_number s lateness c ≡ 0)
  pub box_fewest : (s : Spec) (lateness : ℕ) (p : Plan) → box_plan s lateness ≡ Ok p → (c : List Pair) → OneGapCycle (plan_gap p) c → late_number s lateness c ≡ 0
      → (p.count ≤ length c) × (length c ≡ p.count → p.total ≤ round_records c)
  -- 30 is given exactly when every cycle of 1 to 512 pairs with one gap throughout fails, 26 exactly to an accepted specification with a J above
  -- 1,440, and where the even plan is refused, so is the box plan
  pub box_refused : (s : Spec) (lateness : ℕ) → IsAccepted s → lateness ≤ 1_440
      → (box_plan s lateness ≡ Err 30) ↔ ((g : ℕ) (c : List Pair) → OneGapCycle g c → ¬ (late_number s lateness c ≡ 0))
  pub box_too_late : (s : Spec) (lateness : ℕ) → (box_plan s lateness ≡ Err 26) ↔ (IsAccepted s × (1_440 < lateness))
  pub no_even_no_box : (s : Spec) (lateness : ℕ) → IsAccepted s → lateness ≤ 1_440 → even_plan s ≡ Err 10 → box_plan s lateness ≡ Err 30
  -- The most tolerant plan is the box plan for its lateness, which is 1,440 at most; no cycle of 1 to 512 pairs with one gap throughout passes for a
  -- greater one. Its own cycle has just that tolerance.
  pub tolerant_is : (s : Spec) (t : Late Plan) → tolerant_plan s ≡ Ok t
      → (t.lateness ≤ 1_440)
      × (box_plan s t.lateness ≡ Ok t.found)
      × ((lateness g : ℕ) (c : List Pair) → OneGapCycle g c → late_number s lateness c ≡ 0 → lateness ≤ t.lateness)
  pub tolerant_tolerance : (s : Spec) (t : Late Plan) → tolerant_plan s ≡ Ok t → tolerance s (plan_pairs t.found) ≡ Ok t.lateness
  -- it is refused exactly where the box plan for reports that are on time is, with the same number
  pub tolerant_refused : (s : Spec) (n : ℕ) → (tolerant_plan s ≡ Err n) ↔ (box_plan s 0 ≡ Err n)
  -- Run on duty minutes (document 02, Req 11), every schedule that obeys, so every cycle that is passed, still holds at most B in any R calendar
  -- minutes and keeps smin there; and so does every plan that the test passed, and every even plan.
  pub on_duty_lem : (table : Table) (s : Spec) (t : Schedule) → IsTable table → IsAccepted s → Obeys s t → KeptOnDuty table s t
  pub test_on_duty : (table : Table) (s : Spec) (p : Plan) (v : ℕ) → IsTable table → test_of s ≡ Ok (schedule_of p v) → KeptOnDuty table s (run p)
  pub even_on_duty : (table : Table) (s : Spec) (p : Plan) → IsTable table → even_plan s ≡ Ok p → KeptOnDuty table s (run p)
  -- the loader's call gives 0 exactly when both files are read and the cycle's endless run obeys the specification's rules
  pub verdict_exact : (spec cycle : List ℕ)
      → (verdict_of spec cycle ≡ 0)
      ↔ ((s : Spec) × ((c : List Pair) × ((read_spec spec ≡ Ok s) × ((read_cycle 512 cycle ≡ Ok c) × Obeys s (cycle_run c)))))
  -- and, after an accepted specification, it passes on the number of a cycle file that is refused
  pub verdict_passes_on : (spec cycle : List ℕ) (s : Spec) (n : ℕ) → read_spec spec ≡ Ok s → read_cycle 512 cycle ≡ Err n → verdict_of spec cycle ≡ n
