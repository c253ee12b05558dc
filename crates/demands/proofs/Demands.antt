-- All three demands, each from the crate that proves it. New here is the loader's call: by what the two files are read to, its number is
-- 0 only where both are read and the check's number is 0.
use Prim.Native.Nat.{ℕ, ◌*◌, ◌≤◌, ◌<◌}
use native.Mathlib.Omega.{arith}
use mathlib.Core.Path.{◌≡◌, refl, sym, ap, ◌∙◌}
use mathlib.Core.Logic.{◌⊎◌, inl, inr, ◌↔◌, ⊎_elim}
use mathlib.Core.Bool.{true}
use mathlib.Core.List.{List, []}
use lib.ListN.{length}
use borrow.Author.Tests.{ne_eqb}
use Rattle.spec.specs.declared.Spec.{Spec}
use Rattle.std.specs.Prelude.{Result, Ok, Err}
use Rattle.spec.specs.Limits.{IsAccepted}
use Rattle.spec.specs.File.{read_spec, if_read}
use Rattle.spec.proofs.AnyBytes.{SpecIsRead, spec_is_read}
use Rattle.spec.proofs.Facts.{gap_in_either, number_24, gap_allowed_least, gap_allowed_pos}
use Rattle.schedule.specs.Schedules.{Schedule, minute}
use Rattle.schedule.specs.Rules.{Obeys}
use Rattle.plan.specs.declared.Plan.{Plan}
use Rattle.plan.specs.Plans.{proper, run}
use Rattle.plan.specs.Reports.{report_at, if_proper, report_of}
use Rattle.schedule.proofs.Sums.{block, sum_block, sum_whole}
use Rattle.schedule.proofs.Rules.{breaks_not_obeys}
use Rattle.schedule.proofs.StretchSum.{stretch_is_sum}
use Rattle.schedule.proofs.Timed.{timed_sum, planned_stretch, planned_obeys}
use Rattle.lateness.proofs.Delays.{delayed_later}
use Rattle.lateness.proofs.PlannedSpec.{near_gap}
use Rattle.lateness.proofs.EverySchedule.{late_planned}
use Rattle.schedule.proofs.Moments.{reports_least}
use Rattle.duty.specs.Weeks.{Table, IsTable}
use Rattle.duty.proofs.OpenMinutes.{calendar_open, calendar_before, calendar_apart}
use Rattle.duty.proofs.Tables.{table_facts, number_27, gives_calendar}
use Rattle.duty.proofs.DutyMinutes.{table_exact, other_count, calendar_of_duty, calendar_27, duty_of_calendar, duty_27, duty_28}
use Rattle.duty.proofs.Runs.{duty_gap, duty_later, duty_supply}
use Rattle.plan.proofs.Runs.{report_0_fullest, front_fullest, row_range, row_total, rows_total}
use Rattle.plan.proofs.ThereAndBack.{last_exact, nearest_exact, there_and_back, between_exact, counts_add_up}
use Rattle.consistency.proofs.Conditions.{consistency_25}
use Rattle.families.proofs.Schedules.{required_is_most, available_is_least, schedule_25}
use Rattle.feasibility.proofs.Theorems.{test_passes, test_finds, test_accepted, test_sound, test_numbers, test_25}
use Rattle.feasibility.proofs.Needed.{fourth_needed}
use Rattle.even.proofs.EvenPlans.{even_plan_accepted, even_plan_obeys, even_plan_longest, even_plan_refused, even_plan_own, even_plan_least}
use Rattle.even.proofs.ReportZero.{report_0_thinner}
use Rattle.boxplan.specs.BoxPlan.{box_plan}
use Rattle.boxplan.proofs.BoxPlans.{box_plan_best, box_plan_refused, box_too_late, no_even_no_box}
use Rattle.tolerance.proofs.Tolerances.{tolerance_is, tolerance_refused, tolerant_is, tolerant_tolerance, tolerant_refused}
use Rattle.planfile.specs.PlanFile.{plan_pairs, plan_file, file_after}
use Rattle.planfile.proofs.Written.{plan_written, plan_round, plan_verdict, plan_reads_back}
use Rattle.planfile.proofs.FileNumbers.{plan_file_numbers}
use Rattle.pairs.specs.declared.Pair.{Pair}
use Rattle.cycle.specs.Cycles.{cycle_run}
use Rattle.cycle.specs.Check.{check_number}
use Rattle.cycle.proofs.CyclesPassed.{passed_obeys}
use Rattle.cycle.proofs.Planned.{on_time_same}
use Rattle.cycle.proofs.LatePassed.{late_passed, late_gap, late_size, late_full, late_thin, too_late, late_less}
use Rattle.cycle.proofs.Rounds.{whole_rounds}
use Rattle.cycle.proofs.Runs.{gaps_later}
use Rattle.cycle.proofs.Shown.{full_shown, thin_shown}
use Rattle.cycle.proofs.SentBack.{shown_15, shown_16, few_shown, none_shown}
use Rattle.cycle.proofs.CycleMargins.{margins_right, margins_refused, margin_15, margin_16}
use Rattle.cost.proofs.Rounds.{plan_in_rounds, cycle_in_rounds}
use Rattle.cost.proofs.Billing.{plan_billed, plan_in_bands, cycle_billed, cycle_in_bands}
use Rattle.cyclefile.specs.File.{cycle_bytes, read_cycle, write_number, Reads, bytes_after}
use Rattle.cyclefile.proofs.RoundTrip.{reads_back, writes_back, reads_cycles}
use Rattle.cyclefile.proofs.Refusals.{CycleRefusal, cycle_numbered}
use Rattle.cyclefile.proofs.CutOrOver.{cut_off, number_stays, over_refused, over_whole}
use Rattle.cyclefile.proofs.WrittenBytes.{writes_bytes}
use Rattle.dated.proofs.Readings.{dated_is_read, is_read, was_written}
use Rattle.dated.proofs.Chosen.{in_force_first, in_force_second, in_force_numbers}
use Rattle.dated.proofs.Promises.{part_empty, part_reads, part_written, either_order, same_part}
use Rattle.meter.proofs.Steps.{refused_meter_kept}
use Rattle.meter.proofs.SameAnswers.{same_answers, holds_few}
use Rattle.meter.proofs.Budget.{budget_kept}
use Rattle.maxeltu.specs.Verdict.{verdict_read, verdict_of}
use Rattle.normal.specs.Normal.{least_start, normal_form}
use Rattle.normal.proofs.Orders.{order_total, order_antisymmetric, order_transitive}
use Rattle.normal.proofs.Normalised.{refused_kept, normal_numbers}
use Rattle.normal.proofs.SameCycles.{same_cycle, normal_some, normal_short, normal_run, normal_least, normal_twice}
use Rattle.normal.proofs.SameNumbers.{check_same, late_same, check_file_same, late_file_same}
use Rattle.demands.specs.Demands.{KeptOnDuty, Demands}

-- a cycle's file, by what it is read to
cycle_is_read : (places : ℕ) (file : List ℕ) (r : Result (List Pair) ℕ) → read_cycle places file ≡ r
    → ((c : List Pair) × ((read_cycle places file ≡ Ok c) × ((1 ≤ length c) × ((length c ≤ 512) × (length c ≤ places)))))
    ⊎ ((n : ℕ) × ((read_cycle places file ≡ Err n) × CycleRefusal n))
cycle_is_read places file (Ok c) e = let h = reads_cycles places file c e in inl (c, (e, (h.0, (h.1, h.2))))
cycle_is_read places file (Err n) e = inr (n, (e, cycle_numbered places file n e))

report_is : (p : Plan) (i : ℕ) → proper p ≡ true → report_of p i ≡ Ok (report_at (minute (run p) i) ((run p).size i))
unfolding report_of if_proper
report_is p i ok = rw ok

list_kept : (r : Result (List Pair) ℕ) (held held' : List Pair) (count count' n : ℕ) → Reads r held count n held' count' → 0 < n → (held' ≡ held) × (count' ≡ count)
list_kept (Ok ps) held held' count count' n h some = absurd (let z = h.0 in omega arith)
list_kept (Err m) held held' count count' n h some = (h.1, h.2)

bytes_kept : (c : List Pair) (held : List ℕ) → 0 < write_number (length held) c → bytes_after c held ≡ held
bytes_kept c held h = rw (ne_eqb (write_number (length held) c) 0 (λ z. omega arith))

file_kept : (r : Result (List ℕ) ℕ) (held : List ℕ) (n : ℕ) → r ≡ Err n → file_after r held ≡ held
file_kept r held n e = rw e

-- no number of a cycle's file is 0
not_zero : (n : ℕ) → CycleRefusal n → ¬ (n ≡ 0)
not_zero n h z = ⊎_elim (λ e. omega arith) (λ e. omega arith) h

-- The loader's call.
Loaded : List ℕ → List ℕ → Type 0
Loaded spec cycle = (s : Spec) × ((c : List Pair) × ((read_spec spec ≡ Ok s) × ((read_cycle 512 cycle ≡ Ok c) × Obeys s (cycle_run c))))

module _ (spec cycle : List ℕ) where
  with_spec : (s : Spec) → read_spec spec ≡ Ok s → IsAccepted s → (r : Result (List Pair) ℕ) → read_cycle 512 cycle ≡ r → verdict_of spec cycle ≡ 0 → Loaded spec cycle
  unfolding verdict_of verdict_read Loaded
  with_spec s a ok (Ok c) e z =
      let n = reads_cycles 512 cycle c e in
      (s, (c, (a, (e, (passed_obeys s c ok n.0 n.1).0 (rw (a, e) at z)))))
  with_spec s a ok (Err n) e z = absurd (not_zero n (cycle_numbered 512 cycle n e) (rw (a, e) at z))

  zero_loaded : SpecIsRead (read_spec spec) → verdict_of spec cycle ≡ 0 → Loaded spec cycle
  unfolding verdict_of verdict_read
  zero_loaded (inl (s, (a, ok))) z = with_spec s a ok (read_cycle 512 cycle) refl z
  zero_loaded (inr (n, (a, bounds))) z = absurd (let e : n ≡ 0 = rw a at z in ⊎_elim (λ few. omega arith) (λ is. omega arith) bounds)

  accepted : (s : Spec) → read_spec spec ≡ Ok s → SpecIsRead (read_spec spec) → IsAccepted s
  accepted s a (inl (t, (b, ok))) = let e : s ≡ t = cc in rw e ok
  accepted s a (inr (n, (b, bounds))) = absurd (let z : ◌≡◌ {A = ℕ} 0 1 = cc in omega arith)

  loaded_zero : Loaded spec cycle → verdict_of spec cycle ≡ 0
  unfolding verdict_of verdict_read Loaded
  loaded_zero (s, (c, (a, (e, o)))) =
      let n = reads_cycles 512 cycle c e in
      rw (a, e) ((passed_obeys s c (accepted s a (spec_is_read spec)) n.0 n.1).1 o)

passes_on : (spec cycle : List ℕ) (s : Spec) (n : ℕ) → read_spec spec ≡ Ok s → read_cycle 512 cycle ≡ Err n → verdict_of spec cycle ≡ n
unfolding verdict_of verdict_read
passes_on spec cycle s n a e = rw (a, e)

-- the loader's call reads back the cycles of both files, and checks them
loaded_same : (spec : List ℕ) (c : List Pair) → 1 ≤ length c → length c ≤ 512 → verdict_of spec (cycle_bytes (normal_form c)) ≡ verdict_of spec (cycle_bytes c)
unfolding verdict_of verdict_read
loaded_same spec c some few =
    let short : length (normal_form c) ≤ 512 = omega (arith, normal_short c some) in
    either (read_spec spec) (reads_back 512 (normal_form c) (normal_some c some) short short) (reads_back 512 c some few few)
  where
    either : (read : Result Spec ℕ) → read_cycle 512 (cycle_bytes (normal_form c)) ≡ Ok (normal_form c) → read_cycle 512 (cycle_bytes c) ≡ Ok c
        → if_read read (λ s. verdict_read s (read_cycle 512 (cycle_bytes (normal_form c)))) (λ n. n) ≡ if_read read (λ s. verdict_read s (read_cycle 512 (cycle_bytes c))) (λ n. n)
    either (Ok s) a b = rw (a, b) (check_same c some few s)
    either (Err n) a b = refl

-- So it does with a plan's cycle: that is passed exactly where its run obeys, which is the plan's.
module _ (spec : List ℕ) (s : Spec) (p : Plan) (read : read_spec spec ≡ Ok s) (ok : proper p ≡ true) (few : p.count ≤ 512) where
  read_back : read_cycle 512 (cycle_bytes (plan_pairs p)) ≡ Ok (plan_pairs p)
  read_back = (plan_reads_back p ok few).0

  plan_number : verdict_of spec (cycle_bytes (plan_pairs p)) ≡ check_number s (plan_pairs p)
  unfolding verdict_of verdict_read
  plan_number = rw (read, read_back)

  plan_loads : (verdict_of spec (cycle_bytes (plan_pairs p)) ≡ 0) ↔ Obeys s (run p)
  plan_loads =
      let v = plan_verdict p ok few s (accepted spec [] s read (spec_is_read spec)) in
      (λ e. v.0 (sym plan_number ∙ e), λ o. plan_number ∙ v.1 o)

-- and with a box plan's, which is passed on time too
box_loads : (spec : List ℕ) (s : Spec) (lateness : ℕ) (p : Plan) → read_spec spec ≡ Ok s → box_plan s lateness ≡ Ok p → verdict_of spec (cycle_bytes (plan_pairs p)) ≡ 0
box_loads spec s lateness p read e =
    let best = box_plan_best s lateness p e in
    let few : p.count ≤ 512 = omega (arith, best.has_one_gap.few, (plan_written p best.is_proper).0) in
    plan_number spec s p read best.is_proper few ∙ sym (on_time_same s (plan_pairs p)) ∙ late_less s 0 lateness (plan_pairs p) (omega arith) best.passes

report_by_report : (p : Plan) (i : ℕ) → proper p ≡ true → ((cycle_run (plan_pairs p)).size i ≡ (run p).size i) × (minute (cycle_run (plan_pairs p)) i ≡ minute (run p) i)
report_by_report p i ok = let same = (plan_written p ok).1 in (ap (λ (t : Schedule). t.size i) same, ap (λ (t : Schedule). minute t i) same)

-- A schedule on duty minutes: no gap of it is below smin, and on the calendar each is as long, or longer.
kept_on_duty : (table : Table) (s : Spec) (t : Schedule) → IsTable table → IsAccepted s → Obeys s t → KeptOnDuty table s t
kept_on_duty table s t valid accepted obeys =
    let some = (table_facts table valid).1 in
    record {
      duty_supply = duty_supply table valid t (λ i. gap_allowed_pos s (t.gap i) accepted (obeys.gaps i)) s.supply obeys.supply;
      duty_gaps = λ i. omega (arith, gap_allowed_least s (t.gap i) accepted (obeys.gaps i), duty_gap table valid t i);
      duty_minutes = λ i.
          (duty_of_calendar table _ (minute t i)).1 (valid, calendar_open table some (minute t i), calendar_before table some (minute t i));
      duty_rules = obeys;
    }

pub demands : Demands
unfolding Loaded block
demands = record {
  specification_read = spec_is_read;
  cycle_read = λ places file. cycle_is_read places file (read_cycle places file) refl;
  cut_off = cut_off;
  bytes_over = λ places file. (over_whole places file, λ (front, (over, (c, (e, (reads, some))))). rw e (over_refused places front over c reads some));
  number_stays = number_stays;
  dated_read = dated_is_read;
  refused_list_kept = λ file held held' count count' n. list_kept (read_cycle (length held) file) held held' count count' n;
  refused_bytes_kept = bytes_kept;
  refused_places_kept = refused_kept;
  refused_file_kept = λ p held n e. file_kept (plan_file (length held) p) held n e;
  refused_meter_kept = refused_meter_kept;
  gap_in_either = gap_in_either;
  ranges_apart = number_24;
  two_ranges_turned_away = λ s. (consistency_25 s, λ f k. schedule_25 f s k, test_25 s);
  stretch_sum = stretch_is_sum;
  timed_sum = timed_sum;
  delayed_later = delayed_later;
  on_duty_later = λ table s valid. duty_later table valid s;
  own_minutes = planned_stretch;
  own_rules = planned_obeys;
  whole_rounds = whole_rounds;
  required_supply = required_is_most;
  available_supply = available_is_least;
  test_best = λ s q p v rates e. ((test_passes s q p v rates).0 e).1;
  carriers_count = λ t smax gaps. reports_least t (λ i. (gaps i).0) smax (λ i. (gaps i).1);
  condition_4_needed = fourth_needed;
  test_finds = test_finds;
  test_numbers = test_numbers;
  every_report = report_is;
  fuller_first = λ p ok. (report_0_fullest p ok, front_fullest p ok);
  even_rows = row_range;
  any_period = row_total;
  last_report_lem = last_exact;
  nearest_report_lem = nearest_exact;
  there_and_back = there_and_back;
  between_sums = between_exact;
  counts_add_up = counts_add_up;
  repeated_sum = sum_whole;
  plan_in_rounds = plan_in_rounds;
  cycle_in_rounds = cycle_in_rounds;
  plan_billed = plan_billed;
  cycle_billed = cycle_billed;
  plan_in_bands = plan_in_bands;
  cycle_in_bands = cycle_in_bands;
  table_valid = table_exact;
  table_27 = number_27;
  other_count = other_count;
  calendar_of_duty = calendar_of_duty;
  duty_of_calendar = duty_of_calendar;
  one_undoes_the_other = λ table d m.
      (λ e. (duty_of_calendar table m d).1 ((calendar_of_duty table d m).0 e), λ e. (calendar_of_duty table d m).1 ((duty_of_calendar table m d).0 e));
  calendar_27 = calendar_27;
  every_duty_minute = λ table d valid. gives_calendar table valid d;
  duty_27 = duty_27;
  duty_28 = duty_28;
  distances_kept = λ table d e valid. calendar_apart table (table_facts table valid).1 d e;
  same_cycle = same_cycle;
  normal_run = λ c some. (normal_some c some, normal_short c some, (least_start c, normal_run c some));
  normal_least = normal_least;
  order_total = order_total;
  order_antisymmetric = order_antisymmetric;
  order_transitive = order_transitive;
  normal_twice = normal_twice;
  normal_numbers = normal_numbers;
  reads_back = reads_back;
  written_bytes = writes_bytes;
  writes_back = writes_back;
  dated_reads_back = is_read;
  dated_writes_back = λ file c small e. was_written file small (c, e);
  in_force_first = in_force_first;
  in_force_second = in_force_second;
  in_force_numbers = in_force_numbers;
  part_empty = part_empty;
  part_reads = part_reads;
  part_written = part_written;
  either_order = either_order;
  same_part = same_part;
  meter_answers_lem = same_answers;
  meter_budget = budget_kept;
  meter_holds = holds_few;
  cycle_passed = passed_obeys;
  late_planned = late_planned;
  late_gap_near = near_gap;
  late_numbers = λ s lateness c accepted few some most. record {
    late_passed = late_passed s lateness c accepted few some most;
    late_gap = late_gap s lateness c accepted few some most;
    late_size = late_size s lateness c accepted few some most;
    late_full = late_full s lateness c accepted few some most;
    late_thin = late_thin s lateness c accepted few some most;
  };
  too_late = too_late;
  on_time = on_time_same;
  late_less = late_less;
  normal_number = λ s lateness c some few. (check_same c some few s, late_same c some few s lateness);
  normal_file_number = λ spec lateness c some few.
      (check_file_same c some few (read_spec spec), late_file_same c some few (read_spec spec) lateness, loaded_same spec c some few);
  rows_too_full = λ x c some no_gap_0. full_shown c some (gaps_later c some no_gap_0) x;
  rows_too_thin = λ x c some no_gap_0. thin_shown c some (gaps_later c some no_gap_0) x;
  shown_15 = shown_15;
  shown_16 = shown_16;
  few_shown = few_shown;
  none_shown = none_shown;
  margins_right = margins_right;
  margins_refused = margins_refused;
  margin_15 = margin_15;
  margin_16 = margin_16;
  tolerance_is = tolerance_is;
  tolerance_refused = tolerance_refused;
  test_obeys = test_sound;
  even_obeys = even_plan_obeys;
  even_refused = even_plan_refused;
  even_least = λ s p given sizes obeys j i some.
      rw (sum_block (run p).size (j * p.count), rows_total p (even_plan_obeys s p given).0 j 0) (even_plan_least s p given sizes obeys j i some);
  least_met = λ s p given. (even_plan_own s p given, rows_total p (even_plan_obeys s p given).0);
  report_0_thinner = report_0_thinner;
  even_longest = even_plan_longest;
  breaks_not_obeys = breaks_not_obeys;
  plan_written = plan_written;
  plan_reports = report_by_report;
  plan_round = plan_round;
  plan_file_numbers = plan_file_numbers;
  plan_reads_back = plan_reads_back;
  plan_loads = plan_loads;
  box_passed = λ s lateness p e. let best = box_plan_best s lateness p e in (best.is_proper, best.has_one_gap, best.passes);
  box_obeys = λ s lateness p e. (box_plan_best s lateness p e).obeys;
  box_loads = box_loads;
  box_longest = λ s lateness p e g c one longer passes. absurd (omega (arith, longer, (box_plan_best s lateness p e).longest g c one passes));
  box_fewest = λ s lateness p e. (box_plan_best s lateness p e).fewest;
  box_refused = box_plan_refused;
  box_too_late = box_too_late;
  no_even_no_box = no_even_no_box;
  tolerant_is = tolerant_is;
  tolerant_tolerance = tolerant_tolerance;
  tolerant_refused = tolerant_refused;
  on_duty_lem = kept_on_duty;
  test_on_duty = λ table s p v valid e. kept_on_duty table s (run p) valid (test_accepted s p v e) (test_sound s p v e).1;
  even_on_duty = λ table s p valid e. kept_on_duty table s (run p) valid (even_plan_accepted s p e) (even_plan_obeys s p e).1;
  verdict_exact = λ spec cycle. (zero_loaded spec cycle (spec_is_read spec), loaded_zero spec cycle);
  verdict_passes_on = passes_on;
}
