-- Document 01, "Samples": those marked ★ as one table, and one proof that the definitions give every value that it prints. The sizes of
-- B with 15 are those of document 02, Req 02, its offers those of Req 03, and what four reports of it cost that of Req 08; what F gets is
-- that of Req 07; the way back from minutes, of Req 05, the other bills, late reports, of Req 09, normal forms, of Req 12, shortest stretches, of
-- Req 14, box plans, margins, tolerances, most tolerant plans, and F with B = 15 are ours.
use Rattle.std.specs.Prelude.{ℕ, ◌+◌, ◌*◌, ◌≡◌, refl, List, [], ◌∷◌, ◌++◌, Bool, true, false, ◌&&◌, eqb, length, Option, None, Some, Result, Ok, Err}
use Rattle.spec.specs.declared.Rate.{Rate}
use Rattle.spec.specs.declared.Range.{Range}
use Rattle.spec.specs.declared.Spec.{Spec}
use Rattle.spec.specs.Limits.{rate_of, range_of, spec_number, first_number, if_none, limits, order, rate_limits, range_limits, range_order, starts_above, in_range, size_allowed, gap_allowed, top_of}
use Rattle.spec.specs.File.{read_spec}
use Rattle.spec.specs.Rates.{second_number, one_range_number, rates_from, both_rates, started}
use Rattle.numbers.specs.Numbers.{ceil, all, first}
use Rattle.schedule.specs.Schedules.{sum, minute, held_from, stretch}
use Rattle.schedule.specs.Moments.{greatest, last_report, first_least, nearest_report, reports_from, records_from}
use Rattle.plan.specs.declared.Plan.{Plan}
use Rattle.plan.specs.declared.Report.{Report as PlanReport}
use Rattle.plan.specs.Plans.{proper, run, kind_run, well_size, well_gap, even_first, even_size}
use Rattle.plan.specs.Reports.{if_proper, report_of}
use Rattle.plan.specs.Moments.{last_of, nearest_of, between_of}
use Rattle.consistency.specs.Consistency.{consistency_of, conditions_of, bounds_fit_rates, size_fits_budget, gap_fits_demand, demand_fits_duration, fewest_reports_fit_budget, enough_reports_for_demand, supply_covers_demand, where_there}
use Rattle.families.specs.declared.Family.TheVariants.{MinimumDemand, MaximumSupply}
use Rattle.families.specs.declared.Scheduled.{Scheduled}
use Rattle.families.specs.Families.{schedule_with, schedule_for, scheduled, exists, plan_for, supply_figure, required, available, least}
use Rattle.feasibility.specs.Test.{test_of, test_consistent, test_taken, figure_passes, taken, first_count, last_count, taken_from, better_of, is_better, family_of}
use Rattle.even.specs.Even.{even_plan, plan_or10, even_plan_at, even_gap, largest, fits, supply_fits, demand_fits, total_of, count_at}
use Rattle.boxplan.specs.BoxPlan.{most_at, fewest_records, supply_holds, pairs_fit, fewest_pairs, can_load, box_gap, box_plan_at, plan_or30, box_plan}
use Rattle.planfile.specs.PlanFile.{pairs_from, plan_pairs, plan_file}
use Rattle.cyclefile.specs.File.{pair_bytes, pairs_bytes, cycle_bytes, write_number, file_answer}
use Rattle.answers.specs.Answers.{Answer, consistency_answer, scheduled_answer, tested_answer, plan_answer, value_answer, contents_answer, bill_answer, judged_answer, fullest_answer, thinnest_answer, tolerant_answer}
use Rattle.lateness.specs.Lateness.{late_gap_allowed, late_supply, late_demand, lateness_number}
use Rattle.lateness.specs.PlannedSpec.{joined_end, second_apart, shortened, planned_spec}
use Rattle.pairs.specs.declared.Pair.{Pair}
use Rattle.pairs.specs.Pairs.{flatten}
use Rattle.cycle.specs.Cycles.{pair_gap, pair_size, cycle_run, round}
use Rattle.cycle.specs.Check.{check_number, cycle_number, first_refusal, gaps_allowed, sizes_allowed, supply_kept, demand_met, shape_number}
use Rattle.cycle.specs.LateCheck.{late_number, late_cycle_number, late_gaps_allowed}
use Rattle.cycle.specs.Shortest.{shows_full, shows_thin, shortest, shortest_full, shortest_thin, shortest_stretch}
use Rattle.cycle.specs.Margins.{farthest_of, margin, margin_of, margins, margins_of}
use Rattle.tolerance.specs.Tolerance.{latest, most_late, passing, tolerance, tolerant_plan}
use Rattle.normal.specs.Normal.{pair_of, repeats, period, row, in_order, comes_first, least_start, normal_form}
use Rattle.normal.specs.Answers.{normalised}
use Rattle.cost.specs.declared.Bill.{Bill}
use Rattle.cost.specs.Prices.{price_in, charge, tenths}
use Rattle.cost.specs.Bills.{plan_bill, cycle_bill}
use Rattle.meter.specs.Plain.{Report, OfferAnswer, counted_at, too_early, over_budget, no_place, offer_number, after, later, budget_left, offer_answer, plain_answers}

-- an offer, with the number and the budget left that it gets
pub record Offer : Type 0 where
  pub report : Report
  pub number : ℕ
  pub left : ℕ

-- what the document says of a specification; a report is its minute and its size
pub data Claim : Type 0 where
  consistency_gets : (number : ℕ) → Claim
  consistency_fails : (condition : ℕ) → Claim
  minimum_demand : (k period total required : ℕ) → Claim
  minimum_demand_reports : (k : ℕ) (minutes sizes : List ℕ) → Claim
  maximum_supply : (k period total available : ℕ) → Claim
  test_passes : (k period total supply : ℕ) → Claim
  test_refuses : (number : ℕ) → Claim
  test_fails : (condition : ℕ) → Claim
  even_gives : (gap k total : ℕ) → Claim
  even_reports : (minutes sizes : List ℕ) → Claim
  even_refuses : (number : ℕ) → Claim
  box_gives : (lateness gap k total : ℕ) → Claim
  box_refuses : (lateness number : ℕ) → Claim
  box_writes : (lateness room : ℕ) (file : List ℕ) → Claim
  box_not_written : (lateness room number : ℕ) → Claim
  tolerant_gives : (lateness gap k total : ℕ) → Claim
  tolerant_refuses : (number : ℕ) → Claim
  minimum_demand_minute : (k minute last nearest : ℕ) → Claim
  minimum_demand_between : (k a b reports records : ℕ) → Claim
  even_minute : (minute last nearest : ℕ) → Claim
  even_between : (a b reports records : ℕ) → Claim
  minimum_demand_costs : (k reports tenths cents : ℕ) → Claim
  even_costs : (reports tenths cents : ℕ) → Claim
  cycle_gets : (cycle : List Pair) (number : ℕ) → Claim
  late_gets : (cycle : List Pair) (lateness number : ℕ) → Claim
  stretch_is : (cycle : List Pair) (number first reports : ℕ) → Claim
  no_stretch : (cycle : List Pair) (number : ℕ) → Claim
  margins_are : (cycle : List Pair) (most least : List ℕ) → Claim
  no_margins : (cycle : List Pair) (number : ℕ) → Claim
  tolerance_is : (cycle : List Pair) (lateness : ℕ) → Claim
  no_tolerance : (cycle : List Pair) (number : ℕ) → Claim
  cycle_costs : (cycle : List Pair) (reports tenths cents : ℕ) → Claim
  cycle_not_billed : (cycle : List Pair) (reports number : ℕ) → Claim
  normal_is : (cycle : List Pair) (places : ℕ) (normal : List Pair) → Claim
  normal_refused : (cycle : List Pair) (places number : ℕ) → Claim
  offers_get : (offers : List Offer) → Claim
  is_read_from : (file : List ℕ) → Claim

-- the same numbers
same : List ℕ → List ℕ → Bool
same [] [] = true
same (x ∷ xs) (y ∷ ys) = eqb x y && same xs ys
same [] (y ∷ ys) = false
same (x ∷ xs) [] = false

answer_is : Answer → ℕ → List ℕ → Bool
answer_is a number values = eqb a.number number && same a.values values

-- report i and those after it
report_is : Result PlanReport ℕ → ℕ → ℕ → Bool
report_is (Ok x) minute size = eqb x.minute minute && eqb x.size size
report_is (Err n) minute size = false

reports_are : Plan → ℕ → List ℕ → List ℕ → Bool
reports_are p i [] [] = true
reports_are p i (m ∷ ms) (d ∷ ds) = report_is (report_of p i) m d && reports_are p (i + 1) ms ds
reports_are p i [] (d ∷ ds) = false
reports_are p i (m ∷ ms) [] = false

-- the kinds, as numbers
well_formed : ℕ
well_formed = 0

even : ℕ
even = 1

-- the way back from minutes
minute_is : Plan → (minute last nearest : ℕ) → Bool
minute_is p m i j = answer_is (value_answer (last_of p m)) 0 (i ∷ []) && answer_is (value_answer (nearest_of p m)) 0 (j ∷ [])

between_is : Plan → (a b reports records : ℕ) → Bool
between_is p a b n d = answer_is (contents_answer (between_of p a b)) 0 (n ∷ d ∷ [])

-- what the first reports cost
bill_is : Result Bill ℕ → (tenths cents : ℕ) → Bool
bill_is b t c = answer_is (bill_answer b) 0 (t ∷ c ∷ [])

-- of the plan of a schedule, and of an even plan
of_schedule : Result Scheduled ℕ → (Plan → Bool) → Bool
of_schedule (Ok x) holds = holds x.plan
of_schedule (Err n) holds = false

of_even : Result Plan ℕ → (Plan → Bool) → Bool
of_even (Ok p) holds = holds p
of_even (Err n) holds = false

-- what is written of a plan
file_is : Result (List ℕ) ℕ → List ℕ → Bool
file_is (Ok bytes) file = same bytes file
file_is (Err n) file = false

same_rate : Option Rate → Option Rate → Bool
same_rate None None = true
same_rate (Some x) (Some y) = eqb x.records y.records && eqb x.minutes y.minutes
same_rate None (Some y) = false
same_rate (Some x) None = false

same_range : Option Range → Option Range → Bool
same_range None None = true
same_range (Some x) (Some y) = eqb x.min y.min && eqb x.max y.max
same_range None (Some y) = false
same_range (Some x) None = false

read_to : Result Spec ℕ → Spec → Bool
read_to (Ok r) s =
    same (r.dmin ∷ r.dmax ∷ r.smin ∷ r.smax ∷ []) (s.dmin ∷ s.dmax ∷ s.smin ∷ s.smax ∷ [])
    && same_rate r.supply s.supply
    && same_rate r.demand s.demand
    && same_range r.duration s.duration
    && same_range r.second s.second
read_to (Err n) s = false

offered : List Offer → List Report
offered [] = []
offered (x ∷ xs) = x.report ∷ offered xs

left_is : Option ℕ → ℕ → Bool
left_is None n = false
left_is (Some m) n = eqb m n

answers_are : List OfferAnswer → List Offer → Bool
answers_are [] [] = true
answers_are (a ∷ more) (x ∷ xs) = eqb a.number x.number && left_is a.left x.left && answers_are more xs
answers_are [] (x ∷ xs) = false
answers_are (a ∷ more) [] = false

claim_holds : Spec → Claim → Bool
claim_holds s (consistency_gets n) = answer_is (consistency_answer (consistency_of s)) n []
claim_holds s (consistency_fails c) = answer_is (consistency_answer (consistency_of s)) 7 (c ∷ [])
claim_holds s (minimum_demand k π δ v) = answer_is (scheduled_answer (schedule_for MinimumDemand s k)) 0 (well_formed ∷ k ∷ π ∷ δ ∷ v ∷ [])
claim_holds s (minimum_demand_reports k minutes sizes) = of_schedule (schedule_for MinimumDemand s k) (λ p. reports_are p 0 minutes sizes)
claim_holds s (maximum_supply k π δ v) = answer_is (scheduled_answer (schedule_for MaximumSupply s k)) 0 (well_formed ∷ k ∷ π ∷ δ ∷ v ∷ [])
claim_holds s (test_passes k π δ v) = answer_is (tested_answer (test_of s)) 0 (well_formed ∷ k ∷ π ∷ δ ∷ v ∷ [])
claim_holds s (test_refuses n) = answer_is (tested_answer (test_of s)) n []
claim_holds s (test_fails c) = answer_is (tested_answer (test_of s)) 7 (c ∷ [])
claim_holds s (even_gives g k δ) = answer_is (plan_answer (even_plan s)) 0 (even ∷ k ∷ k * g ∷ δ ∷ [])
claim_holds s (even_reports minutes sizes) = of_even (even_plan s) (λ p. reports_are p 0 minutes sizes)
claim_holds s (even_refuses n) = answer_is (plan_answer (even_plan s)) n []
claim_holds s (box_gives lateness g k δ) = answer_is (plan_answer (box_plan s lateness)) 0 (even ∷ k ∷ k * g ∷ δ ∷ [])
claim_holds s (box_refuses lateness n) = answer_is (plan_answer (box_plan s lateness)) n []
claim_holds s (box_writes lateness room file) = of_even (box_plan s lateness) (λ p. file_is (plan_file room p) file)
claim_holds s (box_not_written lateness room n) = of_even (box_plan s lateness) (λ p. answer_is (value_answer (file_answer (plan_file room p))) n [])
claim_holds s (tolerant_gives lateness g k δ) = answer_is (tolerant_answer (tolerant_plan s)) 0 (even ∷ k ∷ k * g ∷ δ ∷ lateness ∷ [])
claim_holds s (tolerant_refuses n) = answer_is (tolerant_answer (tolerant_plan s)) n []
claim_holds s (minimum_demand_minute k m i j) = of_schedule (schedule_for MinimumDemand s k) (λ p. minute_is p m i j)
claim_holds s (minimum_demand_between k a b n d) = of_schedule (schedule_for MinimumDemand s k) (λ p. between_is p a b n d)
claim_holds s (even_minute m i j) = of_even (even_plan s) (λ p. minute_is p m i j)
claim_holds s (even_between a b n d) = of_even (even_plan s) (λ p. between_is p a b n d)
claim_holds s (minimum_demand_costs k n t c) = of_schedule (schedule_for MinimumDemand s k) (λ p. bill_is (plan_bill p n) t c)
claim_holds s (even_costs n t c) = of_even (even_plan s) (λ p. bill_is (plan_bill p n) t c)
claim_holds s (cycle_gets c n) = eqb (check_number s c) n
claim_holds s (late_gets c lateness n) = eqb (late_number s lateness c) n
claim_holds s (stretch_is c n i reports) = answer_is (judged_answer (check_number s c) (shortest_stretch s c)) n (i ∷ reports ∷ [])
claim_holds s (no_stretch c n) = answer_is (judged_answer (check_number s c) (shortest_stretch s c)) n []
claim_holds s (margins_are c most least) = answer_is (fullest_answer (margins_of s c)) 0 most && answer_is (thinnest_answer (margins_of s c)) 0 least
claim_holds s (no_margins c n) = answer_is (fullest_answer (margins_of s c)) n [] && answer_is (thinnest_answer (margins_of s c)) n []
claim_holds s (tolerance_is c lateness) = answer_is (value_answer (tolerance s c)) 0 (lateness ∷ [])
claim_holds s (no_tolerance c n) = answer_is (value_answer (tolerance s c)) n []
claim_holds s (cycle_costs ps n t c) = bill_is (cycle_bill s ps n) t c
claim_holds s (cycle_not_billed ps n number) = answer_is (bill_answer (cycle_bill s ps n)) number []
claim_holds s (normal_is c places normal) =
    answer_is (value_answer (normalised places c)) 0 (length normal ∷ []) && same (flatten (normal_form c)) (flatten normal)
claim_holds s (normal_refused c places number) = answer_is (value_answer (normalised places c)) number []
claim_holds s (offers_get offers) = answers_are (plain_answers s [] (offered offers)) offers
claim_holds s (is_read_from file) = read_to (read_spec file) s

claims_hold : Spec → List Claim → Bool
claims_hold s [] = true
claims_hold s (c ∷ cs) = claim_holds s c && claims_hold s cs

pub record Sample : Type 0 where
  pub spec : Spec
  pub claims : List Claim

-- a sample with a second range of gaps and two rates, each of which may be absent
pub sample_of : Option Range → (supply demand : Option Rate) → (dmin dmax smin smax : ℕ) → List Claim → Sample
sample_of second supply demand dmin dmax smin smax cs = record {
  spec = record {
    dmin = dmin;
    dmax = dmax;
    smin = smin;
    smax = smax;
    supply = supply;
    demand = demand;
    duration = None;
    second = second;
  };
  claims = cs;
}

-- with both rates
pub sample_with : Option Range → (dmin dmax smin smax b r l p : ℕ) → List Claim → Sample
sample_with second dmin dmax smin smax b r l p = sample_of second (Some (rate_of b r)) (Some (rate_of l p)) dmin dmax smin smax

-- "Written (sizes), (gaps), (B, R), (L, P)."
pub sample : (dmin dmax smin smax b r l p : ℕ) → List Claim → Sample
sample = sample_with None

-- a cycle with one gap
pub cycle : (gap : ℕ) → List ℕ → List Pair
cycle gap [] = []
cycle gap (d ∷ ds) = record { gap = gap; size = d } ∷ cycle gap ds

pub two_rounds : List Pair → List Pair
two_rounds ps = ps ++ ps

pub offer : (minute size number left : ℕ) → Offer
offer t d n left = record { report = record { minute = t; size = d }; number = n; left = left }

pub samples : List Sample
samples =
    -- ★A; ★B = 28
    sample 3 10 45 55 29 220 17 158 (
    minimum_demand 2 110 17 34
    ∷ minimum_demand 3 158 17 29
    ∷ minimum_demand_reports 3 (0 ∷ 52 ∷ 105 ∷ []) (6 ∷ 6 ∷ 5 ∷ [])
    ∷ minimum_demand_minute 3 26 0 0
    ∷ minimum_demand_minute 3 27 0 1
    ∷ minimum_demand_minute 3 157 2 3
    ∷ minimum_demand_between 3 52 158 2 11
    ∷ minimum_demand_costs 3 4 56 6
    ∷ test_passes 3 158 17 29
    ∷ even_gives 52 3 17
    ∷ box_gives 0 52 3 17
    ∷ box_gives 5 50 3 17
    ∷ box_refuses 6 30
    ∷ tolerant_gives 5 50 3 17 ∷ [])
    ∷ sample 3 10 45 55 28 220 17 158 (test_refuses 9 ∷ even_refuses 10 ∷ box_refuses 0 30 ∷ [])
    -- ★B
    ∷ sample 2 3 5 5 16 26 10 20 (test_passes 4 20 10 16 ∷ minimum_demand 4 20 10 16 ∷ [])
    -- ★B = 15, its file and the listing of its even plan; ★G; offers, of which one that is refused far ahead drops nothing
    ∷ sample 2 3 5 5 15 26 10 20 (
    is_read_from (0x0F ∷ 0 ∷ 2 ∷ 0 ∷ 3 ∷ 0 ∷ 5 ∷ 0 ∷ 5 ∷ 0 ∷ 0x0F ∷ 0 ∷ 0x1A ∷ 0 ∷ 0x0A ∷ 0 ∷ 0x14 ∷ [])
    ∷ test_refuses 9
    ∷ even_gives 5 4 10
    ∷ even_reports (0 ∷ 5 ∷ 10 ∷ 15 ∷ []) (3 ∷ 2 ∷ 3 ∷ 2 ∷ [])
    -- two pairs will do for a box
    ∷ box_gives 0 5 2 5
    ∷ box_writes 0 10 (0 ∷ 2 ∷ 3 ∷ 0 ∷ 5 ∷ 0 ∷ 3 ∷ 2 ∷ 0 ∷ 2 ∷ [])
    ∷ box_not_written 0 9 20
    ∷ tolerant_gives 0 5 2 5
    ∷ even_minute 12 2 2
    ∷ even_minute 13 2 3
    ∷ even_between 5 25 4 10
    ∷ even_costs 0 0 0
    ∷ even_costs 4 26 3
    ∷ even_costs 5 34 3
    ∷ even_costs 10 65 7
    ∷ cycle_gets (cycle 5 (3 ∷ 2 ∷ [])) 0
    ∷ cycle_costs (cycle 5 (3 ∷ 2 ∷ [])) 5 34 3
    ∷ cycle_gets (cycle 5 (3 ∷ 3 ∷ 2 ∷ 2 ∷ [])) 15
    ∷ cycle_not_billed (cycle 5 (3 ∷ 3 ∷ 2 ∷ 2 ∷ [])) 0 15
    -- what to send back: 3, 3, 2, 2, 3, 3 in 26 minutes hold 16, begun at the last pair too; four reports between two 25 minutes apart hold 9
    ∷ stretch_is (cycle 5 (3 ∷ 3 ∷ 2 ∷ 2 ∷ [])) 15 0 6
    ∷ stretch_is (cycle 5 (3 ∷ 2 ∷ 2 ∷ 3 ∷ [])) 15 3 6
    ∷ stretch_is (cycle 5 (2 ∷ 2 ∷ 2 ∷ 3 ∷ [])) 16 0 4
    ∷ no_stretch (cycle 5 (3 ∷ 2 ∷ [])) 0
    -- how close they come: six reports in a row, and four after one; of equals the lowest number
    ∷ margins_are (cycle 5 (3 ∷ 2 ∷ [])) (15 ∷ 0 ∷ []) (10 ∷ 0 ∷ [])
    ∷ margins_are (cycle 5 (3 ∷ 3 ∷ 2 ∷ 2 ∷ [])) (16 ∷ 0 ∷ []) (10 ∷ 0 ∷ [])
    ∷ margins_are (cycle 5 (3 ∷ 2 ∷ 2 ∷ 3 ∷ [])) (16 ∷ 3 ∷ []) (10 ∷ 0 ∷ [])
    ∷ margins_are (cycle 5 (2 ∷ 2 ∷ 2 ∷ 3 ∷ [])) (14 ∷ 2 ∷ []) (9 ∷ 0 ∷ [])
    ∷ no_margins (cycle 6 (3 ∷ 2 ∷ [])) 13
    ∷ no_margins [] 12
    ∷ tolerance_is (cycle 5 (3 ∷ 2 ∷ [])) 0
    ∷ no_tolerance (cycle 5 (3 ∷ 3 ∷ 2 ∷ 2 ∷ [])) 15
    ∷ no_tolerance (cycle 5 (2 ∷ 2 ∷ 2 ∷ 3 ∷ [])) 16
    ∷ no_tolerance [] 12
    ∷ no_stretch (cycle 6 (3 ∷ 2 ∷ [])) 13
    ∷ no_stretch [] 12
    ∷ cycle_gets (cycle 5 (2 ∷ 2 ∷ 2 ∷ 3 ∷ [])) 16
    ∷ normal_is (cycle 5 (3 ∷ 2 ∷ [])) 2 (cycle 5 (2 ∷ 3 ∷ []))
    ∷ normal_is (cycle 5 (2 ∷ 3 ∷ 2 ∷ 3 ∷ [])) 2 (cycle 5 (2 ∷ 3 ∷ []))
    ∷ normal_is (cycle 5 (3 ∷ 2 ∷ 2 ∷ 2 ∷ [])) 4 (cycle 5 (2 ∷ 2 ∷ 2 ∷ 3 ∷ []))
    ∷ normal_refused (cycle 5 (2 ∷ 3 ∷ 2 ∷ 3 ∷ [])) 1 20
    ∷ normal_refused [] 0 12
    ∷ offers_get (
    offer 9 4 14 15
    ∷ offer 3 3 0 12
    ∷ offer 8 3 0 9
    ∷ offer 1000 9 14 15
    ∷ offer 13 3 0 6
    ∷ offer 17 3 13 6
    ∷ offer 18 3 0 3
    ∷ offer 23 3 0 0
    ∷ offer 28 1 14 0
    ∷ offer 28 3 15 0
    ∷ offer 29 3 0 0 ∷ []) ∷ [])
    -- with one rate alone, and with none: nothing is told of one that is absent
    ∷ sample_of None (Some (rate_of 15 26)) None 2 3 5 5 (margins_are (cycle 5 (3 ∷ 2 ∷ [])) (15 ∷ 0 ∷ []) [] ∷ tolerance_is (cycle 5 (3 ∷ 2 ∷ [])) 0 ∷ [])
    ∷ sample_of None None (Some (rate_of 10 20)) 2 3 5 5 (margins_are (cycle 5 (3 ∷ 2 ∷ [])) [] (10 ∷ 0 ∷ []) ∷ [])
    ∷ sample_of None None None 2 3 5 5 (margins_are (cycle 5 (3 ∷ 2 ∷ [])) [] [] ∷ [])
    -- ★B = 14
    ∷ sample 2 3 5 5 14 26 10 20 (even_refuses 10 ∷ box_refuses 0 30 ∷ tolerant_refuses 30 ∷ [])
    -- ★C
    ∷ sample 5 6 45 46 10 79 17 159 (maximum_supply 2 90 10 15 ∷ test_refuses 9 ∷ even_refuses 10 ∷ [])
    -- ★D
    ∷ sample 3 5 35 46 10 79 17 158 (maximum_supply 2 79 10 20 ∷ test_passes 2 79 10 20 ∷ even_refuses 10 ∷ [])
    -- ★E
    ∷ sample 3 10 45 80 10 79 17 159 (maximum_supply 1 79 10 20 ∷ test_passes 1 79 10 20 ∷ [])
    -- ★F, as document 02, Req 07, has it: "Sample F becomes 7 with condition 4"; and with B = 15, which ⌈10/4⌉ reports of 5 just keep
    ∷ sample 5 5 4 4 10 10 5 20 (consistency_fails 4 ∷ test_fails 4 ∷ [])
    ∷ sample 5 5 4 4 15 10 5 20 (consistency_gets 0 ∷ test_passes 3 12 15 25 ∷ [])
    -- a van of two shifts (document 02, Req 06): samples/shift.spec with its two cycles, of which one has a gap between the ranges; the
    -- same with a second range that touches the first, and with one that starts at smax
    ∷ sample_with (Some (range_of 60 90)) 1 10 5 15 22 60 8 90 (
    is_read_from (0x2F ∷ 0 ∷ 1 ∷ 0 ∷ 10 ∷ 0 ∷ 5 ∷ 0 ∷ 15 ∷ 0 ∷ 22 ∷ 0 ∷ 60 ∷ 0 ∷ 8 ∷ 0 ∷ 90 ∷ 0 ∷ 60 ∷ 0 ∷ 90 ∷ [])
    ∷ consistency_gets 25
    ∷ test_refuses 25
    ∷ even_gives 90 1 8
    ∷ cycle_gets (cycle 15 (5 ∷ 5 ∷ []) ++ cycle 5 (4 ∷ []) ++ cycle 90 (8 ∷ []) ++ cycle 60 (8 ∷ [])) 0
    ∷ cycle_gets (cycle 15 (8 ∷ []) ++ cycle 30 (4 ∷ []) ++ cycle 90 (8 ∷ [])) 13
    -- the first cycle, and the same begun at its fourth pair and written out twice (document 02, Req 12)
    ∷ normal_is (cycle 15 (5 ∷ 5 ∷ []) ++ cycle 5 (4 ∷ []) ++ cycle 90 (8 ∷ []) ++ cycle 60 (8 ∷ [])) 5
    (cycle 5 (4 ∷ []) ++ cycle 90 (8 ∷ []) ++ cycle 60 (8 ∷ []) ++ cycle 15 (5 ∷ 5 ∷ []))
    ∷ normal_is (two_rounds (cycle 90 (8 ∷ []) ++ cycle 60 (8 ∷ []) ++ cycle 15 (5 ∷ 5 ∷ []) ++ cycle 5 (4 ∷ []))) 5
    (cycle 5 (4 ∷ []) ++ cycle 90 (8 ∷ []) ++ cycle 60 (8 ∷ []) ++ cycle 15 (5 ∷ 5 ∷ []))
    -- and the second, begun at its second pair: by gap (15, 8) comes first, by size (30, 4) would
    ∷ normal_is (cycle 30 (4 ∷ []) ++ cycle 90 (8 ∷ []) ++ cycle 15 (8 ∷ [])) 3 (cycle 15 (8 ∷ []) ++ cycle 30 (4 ∷ []) ++ cycle 90 (8 ∷ []))
    -- late reports: 16 is between the ranges; of the gaps 15 to 65 both ends are allowed
    ∷ late_gets (cycle 15 (4 ∷ [])) 0 0
    ∷ late_gets (cycle 15 (4 ∷ [])) 1 13
    ∷ late_gets (cycle 40 (4 ∷ [])) 25 13
    -- the box plan: 65 to 85 minutes are left of the second range, then 75 alone, then nothing of either
    ∷ box_gives 5 85 1 8
    ∷ box_gives 15 75 1 8
    ∷ box_refuses 16 30
    ∷ tolerant_gives 15 75 1 8
    ∷ tolerance_is (cycle 75 (8 ∷ [])) 15 ∷ [])
    ∷ sample_with (Some (range_of 16 90)) 1 10 5 15 22 60 8 90 (
    cycle_gets (cycle 15 (8 ∷ []) ++ cycle 30 (4 ∷ []) ++ cycle 90 (8 ∷ [])) 0
    ∷ late_gets (cycle 15 (4 ∷ [])) 10 0
    ∷ late_gets (cycle 15 (4 ∷ [])) 11 13
    ∷ late_gets (cycle 40 (4 ∷ [])) 10 0
    ∷ late_gets (cycle 40 (4 ∷ [])) 11 16
    ∷ box_gives 10 80 1 8
    -- the two ranges are one: the first alone has no gap that is 40 minutes from both its ends
    ∷ tolerant_gives 40 50 1 8
    ∷ tolerance_is (cycle 40 (4 ∷ [])) 10 ∷ [])
    ∷ sample_with (Some (range_of 15 90)) 1 10 5 15 22 60 8 90 (consistency_gets 24 ∷ test_refuses 24 ∷ even_refuses 24 ∷ late_gets [] 1441 24 ∷ box_refuses 1441 24 ∷ tolerant_refuses 24 ∷ no_tolerance [] 24 ∷ no_margins [] 24 ∷ [])
    -- reports that arrive late (document 02, Req 09): samples/late.spec with its cycles
    ∷ sample 1 2 2 6 4 6 2 8 (
    late_gets (cycle 4 (2 ∷ [])) 2 0
    ∷ late_gets (cycle 4 (2 ∷ [])) 3 13
    ∷ late_gets (cycle 4 (2 ∷ [])) 1440 13
    ∷ late_gets (cycle 4 (2 ∷ [])) 1441 26
    ∷ late_gets (cycle 4 (3 ∷ [])) 2 14
    ∷ late_gets (cycle 3 (2 ∷ [])) 0 0
    ∷ late_gets (cycle 3 (2 ∷ [])) 1 15
    ∷ late_gets (cycle 4 (1 ∷ [])) 0 0
    ∷ late_gets (cycle 4 (1 ∷ [])) 1 16
    ∷ late_gets [] 1440 12
    ∷ late_gets [] 1441 26
    ∷ box_gives 2 4 1 2
    ∷ box_refuses 3 30
    ∷ box_refuses 1441 26
    ∷ tolerance_is (cycle 4 (2 ∷ [])) 2
    ∷ tolerant_gives 2 4 1 2 ∷ [])
    -- P minutes of no more than J can be empty; so can P minutes between two reports
    ∷ sample 1 9 1 9 9 1 1 3 (late_gets (cycle 4 (9 ∷ [])) 3 16 ∷ stretch_is (cycle 4 (9 ∷ [])) 16 0 0 ∷ [])
    ∷ []

pub samples_hold : List Sample → Bool
samples_hold [] = true
samples_hold (x ∷ xs) = claims_hold x.spec x.claims && samples_hold xs

-- Every value of the table is what the definitions compute.
pub samples_hold_lem : samples_hold samples ≡ true
unfolding samples_hold samples sample farthest_of margin margin_of margins margins_of shape_number latest most_late passing tolerance tolerant_plan box_plan plan_or30 box_plan_at box_gap can_load fewest_pairs pairs_fit supply_holds fewest_records most_at joined_end second_apart shortened planned_spec pairs_from plan_pairs plan_file pair_bytes pairs_bytes cycle_bytes write_number file_is sample_of sample_with cycle two_rounds offer offered left_is answers_are claims_hold claim_holds same answer_is report_is reports_are well_formed even minute_is between_is bill_is of_schedule of_even same_rate same_range read_to spec_number first_number limits order rate_limits range_limits range_order starts_above in_range size_allowed gap_allowed top_of read_spec if_none second_number one_range_number started sum minute held_from stretch proper run kind_run well_size well_gap even_first even_size report_of if_proper between_of greatest last_report first_least nearest_report reports_from records_from consistency_of conditions_of bounds_fit_rates size_fits_budget gap_fits_demand demand_fits_duration fewest_reports_fit_budget enough_reports_for_demand supply_covers_demand where_there ceil schedule_for both_rates rates_from scheduled exists plan_for supply_figure required available least test_of test_consistent test_taken figure_passes taken first_count last_count schedule_with taken_from better_of is_better family_of even_plan plan_or10 even_plan_at even_gap largest fits supply_fits demand_fits total_of count_at pair_gap pair_size cycle_run round check_number cycle_number first_refusal gaps_allowed sizes_allowed supply_kept demand_met lateness_number late_number late_cycle_number late_gap_allowed late_gaps_allowed late_supply late_demand all price_in charge tenths plan_bill cycle_bill first shows_full shows_thin shortest shortest_full shortest_thin shortest_stretch pair_of repeats period row in_order comes_first least_start normal_form normalised counted_at too_early over_budget no_place offer_number after later budget_left offer_answer plain_answers
samples_hold_lem = refl
