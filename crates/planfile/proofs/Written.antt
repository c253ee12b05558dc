-- A plan written out as a cycle. Sizes and gaps of both kinds repeat after k reports, so the endless repetition of the k pairs is the plan,
-- report by report. So what is said of a cycle's run is said of the plan, and what is said of every cycle's file is said of the plan's.
use Prim.Native.Nat.{ℕ, zero, suc, ◌+◌, ◌/◌, ◌%◌, ◌≤◌, ◌<◌}
use native.Mathlib.Omega.{arith}
use native.Mathlib.Nat.{add-zero, zero-add, mod-lt, mod-add-div'}
use mathlib.Core.Path.{◌≡◌, refl, sym, ap, ◌∙◌}
use mathlib.Core.Logic.{◌↔◌}
use mathlib.Core.Bool.{true}
use lib.ListN.{length, get_or}
use Rattle.std.specs.Prelude.{Ok}
use Rattle.spec.specs.declared.Spec.{Spec}
use Rattle.spec.specs.Limits.{IsAccepted}
use Rattle.schedule.specs.Schedules.{Schedule}
use Rattle.schedule.specs.Rules.{Obeys}
use Rattle.schedule.proofs.Sums.{rounds_again}
use Rattle.plan.specs.declared.Plan.{Plan}
use Rattle.plan.specs.Plans.{proper, run}
use Rattle.plan.proofs.Proper.{proper_bounds}
use Rattle.plan.proofs.Runs.{run_gap_again, run_gap_most, run_size_again, run_size_most, run_period, run_total}
use Rattle.pairs.specs.declared.Pair.{Pair}
use Rattle.pairs.specs.Pairs.{no_pair}
use Rattle.cycle.specs.Cycles.{pair_gap, pair_size, cycle_run, round, round_records}
use Rattle.cycle.specs.Check.{check_number}
use Rattle.cycle.proofs.CyclesPassed.{passed_obeys}
use Rattle.cyclefile.specs.File.{Words, AreBytes, cycle_bytes, read_cycle}
use Rattle.cyclefile.proofs.RoundTrip.{reads_back}
use Rattle.cyclefile.proofs.WrittenBytes.{writes_bytes}
use Rattle.planfile.specs.PlanFile.{pairs_from, plan_pairs}

module _ (s : Schedule) where
  length_pairs_from : (i n : ℕ) → length (pairs_from s i n) ≡ n
  unfolding pairs_from
  length_pairs_from i zero = refl
  length_pairs_from i (suc n) = ap suc (length_pairs_from (i + 1) n)

  pub pair_from : (i n j : ℕ) → j < n → get_or (pairs_from s i n) j no_pair ≡ record { gap = s.gap (i + j); size = s.size (i + j) }
  unfolding pairs_from
  pair_from i zero j h = absurd (omega arith)
  pair_from i (suc n) zero h = rw add-zero
  pair_from i (suc n) (suc j) h = let z : i + 1 + j ≡ i + suc j = omega arith in rw z at (pair_from (i + 1) n j (omega arith))

  -- numbers that are few in every report are few in every pair
  words_from : ((i : ℕ) → s.gap i < 65536) → ((i : ℕ) → s.size i < 65536) → (i n : ℕ) → Words (pairs_from s i n)
  unfolding pairs_from
  words_from gaps sizes i zero = tt
  words_from gaps sizes i (suc n) = (gaps i, (sizes i, words_from gaps sizes (i + 1) n))

  -- a schedule that repeats after c reports is the endless run of the cycle of its first c
  module _ (c : ℕ) (some : 1 ≤ c) (size_again : (i : ℕ) → s.size (i + c) ≡ s.size i) (gap_again : (i : ℕ) → s.gap (i + c) ≡ s.gap i) where
    first_again : (f : ℕ → ℕ) → ((i : ℕ) → f (i + c) ≡ f i) → (i : ℕ) → f (i % c) ≡ f i
    first_again f again i = sym (rounds_again f c again (i % c) (i / c)) ∙ ap f (mod-add-div' i c)

    turned : (i : ℕ) → get_or (pairs_from s 0 c) (i % length (pairs_from s 0 c)) no_pair ≡ record { gap = s.gap (i % c); size = s.size (i % c) }
    turned i = rw (length_pairs_from 0 c, pair_from 0 c (i % c) (mod-lt i some), zero-add)

    run_of_first : cycle_run (pairs_from s 0 c) ≡ s
    unfolding cycle_run pair_gap pair_size
    run_of_first = λ x. record {
      size = λ i. (ap (λ (p : Pair). p.size) (turned i) ∙ first_again s.size size_again i) x;
      gap = λ i. (ap (λ (p : Pair). p.gap) (turned i) ∙ first_again s.gap gap_again i) x;
    }

pub length_plan_pairs : (p : Plan) → length (plan_pairs p) ≡ p.count
unfolding plan_pairs
length_plan_pairs p = length_pairs_from (run p) _ p.count

module _ (p : Plan) (ok : proper p ≡ true) where
  -- The k reports are k pairs, and the run of that cycle is the plan's: report by report its sizes, gaps and minutes are the plan's.
  pub plan_written : (length (plan_pairs p) ≡ p.count) × (cycle_run (plan_pairs p) ≡ run p)
  unfolding plan_pairs
  plan_written = (length_plan_pairs p, run_of_first (run p) p.count (proper_bounds p ok).some (run_size_again p ok) (run_gap_again p ok))

  -- a round takes π minutes and holds δ records
  pub plan_round : (round (plan_pairs p) ≡ p.period) × (round_records (plan_pairs p) ≡ p.total)
  unfolding round round_records
  plan_round = rw (plan_written.0, plan_written.1) (run_period p ok, run_total p ok)

  plan_words : Words (plan_pairs p)
  unfolding plan_pairs
  plan_words = words_from (run p) (λ i. omega (arith, run_gap_most p ok i)) (λ i. omega (arith, run_size_most p ok i)) 0 p.count

  module _ (few : p.count ≤ 512) where
    counted : (1 ≤ length (plan_pairs p)) × (length (plan_pairs p) ≤ 512)
    counted = rw (length_plan_pairs p) ((proper_bounds p ok).some, few)

    -- the cycle is passed exactly where the plan obeys the four rules
    pub plan_verdict : (spec : Spec) → IsAccepted spec → (check_number spec (plan_pairs p) ≡ 0) ↔ Obeys spec (run p)
    plan_verdict spec accepted = rw plan_written.1 at (passed_obeys spec (plan_pairs p) accepted counted.0 counted.1)

    -- what is written is made of bytes, and reads back as the same cycle
    pub plan_reads_back : (read_cycle 512 (cycle_bytes (plan_pairs p)) ≡ Ok (plan_pairs p)) × AreBytes (cycle_bytes (plan_pairs p))
    plan_reads_back = (reads_back 512 (plan_pairs p) counted.0 counted.1 counted.1, writes_bytes (plan_pairs p) counted.1 plan_words)
