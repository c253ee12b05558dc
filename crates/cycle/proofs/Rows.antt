-- Why one pass finds the shortest row. From a start let a window be filled with what is left of the bound when its whole rounds are taken off. Then
-- the fewest reports that go over the bound are those of these rounds and of the window; a longer row that shows the refusal has no less
-- of the other, so this one shows it too. And the run repeats with the round, so the starts of one round are all.
use Prim.Native.Nat.{ℕ, ◌+◌, ◌-◌, ◌*◌, ◌%◌, ◌≤◌, ◌<◌}
use native.Mathlib.Omega.{arith}
use native.Mathlib.Nat.{mod-lt, mod-le, add-zero, add_comm}
use mathlib.Core.Path.{◌≡◌, refl, ◌∙◌}
use mathlib.Core.Logic.{◌↔◌, ⊎_elim}
use mathlib.Core.Bool.{Bool, true, false, cond, and-eq-true_iff}
use mathlib.Core.List.{List}
use lib.Dec.{leb}
use lib.ListN.{length}
use borrow.Author.Count.{below_more}
use borrow.Author.Tests.{leb-true, leb-false}
use Rattle.std.specs.Prelude.{Option, None, Some}
use Rattle.numbers.proofs.Cases.{lt_cases}
use Rattle.numbers.proofs.Tests.{ltb_iff}
use Rattle.pairs.specs.declared.Pair.{Pair}
use Rattle.schedule.specs.Schedules.{Schedule, sum, minute}
use Rattle.schedule.proofs.Sums.{sum_add, sum_rounds, block, block_first, block_more, block_part, rounds_again, block_turned}
use Rattle.schedule.proofs.Before.{minute_add, minute_mono}
use Rattle.cycle.specs.declared.Row.{Row}
use Rattle.cycle.specs.declared.windows.Measure.{Measure}
use Rattle.cycle.specs.declared.windows.Measure.TheVariants.{Minutes, Records}
use Rattle.cycle.specs.declared.windows.Parts.{Parts}
use Rattle.cycle.specs.declared.windows.Window.{Window}
use Rattle.cycle.specs.Cycles.{cycle_run, round, round_records}
use Rattle.cycle.specs.Shortest.{records_in}
use Rattle.cycle.specs.Windows.{Walkable, IsParts, Spans}
use Rattle.cycle.specs.Rows.{minutes_in, skipped, left_out, row_shows, row_of, shorter, Best, BestBefore, Found}
use Rattle.cycle.proofs.Runs.{gap_again, size_again}
use Rattle.cycle.proofs.MovingWindow.{first_there, past_most}

-- the best row of the starts before k, and one start more
module _ (shows : ℕ → ℕ → Bool) (k : ℕ) where
  -- it is the best still, where none from start k is shorter
  kept : (row : Row) → Best shows k row → ((n : ℕ) → shows k n ≡ true → row.reports ≤ n) → Best shows (k + 1) row
  kept row best here = record {
    shown = best.shown;
    passed = omega (arith, best.passed);
    fewest = below_more (λ i. (n : ℕ) → shows i n ≡ true → row.reports ≤ n) k best.fewest here;
    lowest_one = below_more (λ i. shows i row.reports ≡ true → row.first ≤ i) k best.lowest_one (λ a. omega (arith, best.passed));
  }

  -- none from start k shows it
  best_kept : (best : Option Row) → BestBefore shows k best → ((n : ℕ) → ¬ (shows k n ≡ true)) → BestBefore shows (k + 1) best
  best_kept None none here = below_more (λ i. (n : ℕ) → ¬ (shows i n ≡ true)) k none here
  best_kept (Some row) best here = kept row best (λ n a. absurd (here n a))

  -- e reports from start k do, and fewer don't
  module _ (e : ℕ) (own : shows k e ≡ true) (from : (n : ℕ) → shows k n ≡ true → e ≤ n) where
    -- they are the best, where all rows before have more
    taken : ((i : ℕ) → i < k → (n : ℕ) → shows i n ≡ true → e < n) → Best shows (k + 1) (record { first = k; reports = e })
    taken longer = record {
      shown = own;
      passed = omega arith;
      fewest = below_more (λ i. (n : ℕ) → shows i n ≡ true → e ≤ n) k (λ i q n a. omega (arith, longer i q n a)) from;
      lowest_one = below_more (λ i. shows i e ≡ true → k ≤ i) k (λ i q a. absurd (omega (arith, longer i q e a))) (λ a. omega arith);
    }

    best_step : (best : Option Row) → BestBefore shows k best → BestBefore shows (k + 1) (shorter best (record { first = k; reports = e }))
    best_step None none = taken (λ i q n a. absurd (none i q n a))
    best_step (Some row) best = pick (leb row.reports e) refl
      where
        pick : (t : Bool) → leb row.reports e ≡ t → BestBefore shows (k + 1) (cond t (Some row) (Some (record { first = k; reports = e })))
        pick true t = let few : row.reports ≤ e = leb-true _ _ t in kept row best (λ n a. omega (arith, from n a))
        pick false t = let fewer : e < row.reports = leb-false _ _ t in taken (λ i q n a. omega (arith, best.fewest i q n a))

pub row_means : (by : Measure) (s : Schedule) (x y i n : ℕ)
    → (row_shows by s x y i n ≡ true) ↔ ((x < minutes_in s i n) × (records_in s (i + skipped by) (n - 1) < y))
unfolding row_shows
row_means by s x y i n = (λ e. simp (and-eq-true_iff, ltb_iff) at e, λ h. simp (and-eq-true_iff, ltb_iff) h)

-- the row of the whole rounds in more than x, and of a window that reached what is left
module _ (ps : List Pair) (ok : Walkable ps) (x : ℕ) {parts : Parts} (is : IsParts ps (x + 1) parts) {w : Window} (h : Spans (cycle_run ps) parts.rest w) (full : parts.rest ≤ w.minutes) where
  some : w.first < w.past
  some = first_there ps ok (x + 1) is h full

  abbrev reports : ℕ
  reports = parts.rounds * length ps + (w.past - w.first)

  rounds_on : (n : ℕ) → minute (cycle_run ps) (n + parts.rounds * length ps) ≡ minute (cycle_run ps) n + parts.rounds * round ps
  unfolding minute round
  rounds_on n = sum_rounds (cycle_run ps).gap (length ps) (gap_again ps) n parts.rounds

  minutes_on : (n : ℕ) → minute (cycle_run ps) (w.first + n) ≡ minute (cycle_run ps) w.first + minutes_in (cycle_run ps) w.first n
  unfolding block
  minutes_on n = minute_add (cycle_run ps) w.first n

  -- its reports go over x, and fewer don't
  goes_over : (n : ℕ) → x < minutes_in (cycle_run ps) w.first n ↔ reports ≤ n
  goes_over n = (
    λ over.
        ⊎_elim
        (λ fewer.
        absurd
        (omega (
          arith,
          some,
          is.splits,
          h.inside (w.past - 1) (omega (arith, some)),
          rounds_on (w.past - 1),
          minutes_on n,
          minute_mono (cycle_run ps) (w.first + n) (w.past - 1 + parts.rounds * length ps) (omega (arith, some)),
        )))
        (λ g. g)
        (lt_cases n reports),
    λ enough.
        omega (
          arith,
          is.splits,
          h.minutes,
          rounds_on w.past,
          minutes_on n,
          minute_mono (cycle_run ps) (w.past + parts.rounds * length ps) (w.first + n) (omega (arith, h.forward)),
        ),
  )

  -- the report that is left out is one of the first two rounds
  pub left_inside : (by : Measure) → w.first < length ps → left_out by w < 2 * length ps
  left_inside Minutes first_round = omega (arith, ok.some)
  left_inside Records first_round = omega (arith, some, past_most ps parts.rest first_round is.short h)

  -- what they have of the other, without the one that is left out
  records_on : parts.records + w.records ≡ block (cycle_run ps).size w.first reports
  unfolding round_records
  records_on =
      let z : w.first + reports ≡ w.past + parts.rounds * length ps = omega (arith, h.forward) in
      let all : sum (cycle_run ps).size (w.past + parts.rounds * length ps) ≡ sum (cycle_run ps).size w.first + block (cycle_run ps).size w.first reports =
      rw z at (sum_add (cycle_run ps).size w.first reports) in
      omega (arith, is.records, h.records, sum_rounds (cycle_run ps).size (length ps) (size_again ps) w.past parts.rounds)

  module _ (by : Measure) {size : ℕ} (left : size ≡ (cycle_run ps).size (left_out by w)) where
    without_left : parts.records + w.records ≡ records_in (cycle_run ps) (w.first + skipped by) (reports - 1) + size
    unfolding block
    without_left = records_on ∙ pick by left (reports - 1) (omega (arith, some))
      where
        pick : (by : Measure) → size ≡ (cycle_run ps).size (left_out by w) → (n : ℕ) → reports ≡ n + 1
            → block (cycle_run ps).size w.first reports ≡ block (cycle_run ps).size (w.first + skipped by) n + size
        pick Minutes e n z = rw (z, add_comm n 1, block_first (cycle_run ps).size w.first n) (omega arith)
        pick Records e n z =
            let last : w.first + n ≡ w.past - 1 + parts.rounds * length ps = omega (arith, some) in
            rw (z, block_more (cycle_run ps).size w.first n, last, rounds_again (cycle_run ps).size (length ps) (size_again ps) (w.past - 1) parts.rounds, add-zero w.first) (omega arith)

    module _ (y : ℕ) where
      abbrev pub shows : ℕ → ℕ → Bool
      shows = row_shows by (cycle_run ps) x y

      -- so it is the shortest row from its start that shows the refusal, where any there does
      own : parts.records + w.records < y + size → shows w.first reports ≡ true
      own near = (row_means by (cycle_run ps) x y w.first _).1 ((goes_over _).1 (omega arith), omega (arith, without_left))

      least : (n : ℕ) → shows w.first n ≡ true → (reports ≤ n) × (parts.records + w.records < y + size)
      unfolding block
      least n e =
          let t = (row_means by (cycle_run ps) x y w.first n).0 e in
          let long = (goes_over n).0 t.0 in
          let part = block_part (cycle_run ps).size (w.first + skipped by) (reports - 1) (n - 1) (omega arith) in
          (long, omega (arith, t.1, without_left))

      module _ (best : Option Row) (before : BestBefore shows w.first best) where
        pub start_shows : (c : ℕ) → length ps ≡ c → parts.records + w.records < y + size → BestBefore shows (w.first + 1) (shorter best (row_of c parts.rounds w))
        start_shows c z near = rw (← z) (best_step shows w.first _ (own near) (λ n e. (least n e).0) best before)

        pub start_shows_none : y + size ≤ parts.records + w.records → BestBefore shows (w.first + 1) best
        start_shows_none far = best_kept shows w.first best before (λ n e. let k = least n e in omega arith)

-- in a run that repeats, the starts of one round are all
pub rows_again : (by : Measure) (s : Schedule) (c : ℕ) → ((i : ℕ) → s.gap (i + c) ≡ s.gap i) → ((i : ℕ) → s.size (i + c) ≡ s.size i) → (x y i n : ℕ)
    → row_shows by s x y (i % c) n ≡ row_shows by s x y i n
unfolding row_shows block
rows_again by s c gap_again size_again x y i n =
    let over : block s.gap (i % c) n ≡ block s.gap i n = rw (add-zero (i % c), add-zero i) at (block_turned s.gap c gap_again i 0 n) in
    rw (over, block_turned s.size c size_again i (skipped by) (n - 1))

pub best_found : (shows : ℕ → ℕ → Bool) (c : ℕ) → 0 < c → ((i n : ℕ) → shows (i % c) n ≡ shows i n) → (best : Option Row) → BestBefore shows c best → Found shows c best
best_found shows c some again None none = λ i n a. none (i % c) (mod-lt i some) n (again i n ∙ a)
best_found shows c some again (Some row) best = record {
  shown = best.shown;
  fewest = λ i n a. best.fewest (i % c) (mod-lt i some) n (again i n ∙ a);
  lowest_one = λ i a. omega (arith, best.lowest_one (i % c) (mod-lt i some) (again i row.reports ∙ a), mod-le i c);
  inside = best.passed;
}
