-- Both refusals in the one form of the search. A row of n + 1 reports that goes over P minutes is the report before n others, and those. A row
-- that goes over B records is one of a run whose gaps are the sizes and whose sizes are the gaps. No gap is 0, so the fewest reports are not more
-- than the minutes.
use Prim.Native.Nat.{ℕ, ◌+◌, ◌-◌, ◌%◌, ◌≤◌, ◌<◌}
use native.Mathlib.Omega.{arith}
use native.Mathlib.Nat.{add-zero, mul-one}
use mathlib.Core.Path.{◌≡◌, refl, sym, ◌∙◌}
use mathlib.Core.Logic.{◌↔◌, ⊎_elim}
use mathlib.Core.Bool.{true, and-eq-true_iff}
use mathlib.Core.List.{List}
use lib.Dec.{ltb}
use lib.ListN.{length}
use borrow.Author.Tests.{lt-ltb, le-ltb}
use Rattle.std.specs.Prelude.{Option, None, Some}
use Rattle.numbers.proofs.Cases.{lt_cases}
use Rattle.numbers.proofs.Tests.{ltb_iff}
use Rattle.spec.specs.declared.Rate.{Rate}
use Rattle.schedule.specs.Schedules.{Schedule, minute}
use Rattle.schedule.proofs.Sums.{block, block_some, block_least, block_part}
use Rattle.schedule.proofs.Before.{minute_add}
use Rattle.cycle.specs.declared.Row.{Row}
use Rattle.cycle.specs.declared.windows.Measure.TheVariants.{Minutes, Records}
use Rattle.cycle.specs.Shortest.{records_in, shows_full, shows_thin, shortest_full, shortest_thin}
use Rattle.cycle.specs.Windows.{pairs_in, run_in, Walkable}
use Rattle.cycle.specs.Rows.{minutes_in, row_shows, without_first, Found}
use Rattle.cycle.proofs.Chunks.{length_pairs_in}
use Rattle.cycle.proofs.Runs.{gap_again, size_again, gap_in, size_in}
use Rattle.cycle.proofs.Rows.{row_means, rows_again}
use Rattle.cycle.proofs.ShortestRows.{found_given}

-- two numbers that are both larger by k compare alike
test_later : (k a b : ℕ) → ltb a b ≡ ltb (k + a) (k + b)
test_later k a b =
    ⊎_elim (λ h. rw (lt-ltb a b h, lt-ltb (k + a) (k + b) (omega arith))) (λ h. rw (le-ltb a b h, le-ltb (k + a) (k + b) (omega arith))) (lt_cases a b)

-- a run with sizes for gaps and gaps for sizes
abbrev pub exchanged : Schedule → Schedule
exchanged s = record { size = s.gap; gap = s.size }

pub by_records : (xs : List (List ℕ)) → run_in Records xs ≡ exchanged (run_in Minutes xs)
by_records xs = λ k. record {
  size = λ i. (sym (size_in Records xs i (i % length xs) refl 0 refl) ∙ gap_in Minutes xs i (i % length xs) refl 0 refl) k;
  gap = λ i. (sym (gap_in Records xs i (i % length xs) refl 1 refl) ∙ size_in Minutes xs i (i % length xs) refl 1 refl) k;
}

-- what the search by minutes finds, without the report before those between
abbrev pub between : Option Row → Option Row
between None = None
between (Some row) = Some (without_first row)

module _ (s : Schedule) where
  pub full_means : (x : Rate) (i n : ℕ) → (shows_full x s i n ≡ true) ↔ ((x.records < records_in s i n) × (minute s (i + (n - 1)) < minute s i + x.minutes))
  unfolding shows_full
  full_means x i n = (λ e. simp (and-eq-true_iff, ltb_iff) at e, λ h. simp (and-eq-true_iff, ltb_iff) h)

  pub thin_means : (x : Rate) (i n : ℕ) → (shows_thin x s i n ≡ true) ↔ ((minute s i + x.minutes < minute s (i + (n + 1))) × (records_in s (i + 1) n < x.records))
  unfolding shows_thin
  thin_means x i n = (λ e. simp (and-eq-true_iff, ltb_iff) at e, λ h. simp (and-eq-true_iff, ltb_iff) h)

  full_rows : (x : Rate) (i n : ℕ) → row_shows Records (exchanged s) x.records x.minutes i n ≡ shows_full x s i n
  unfolding row_shows shows_full block
  full_rows x i n = rw (add-zero i, minute_add s i (n - 1), ← test_later (minute s i) (minutes_in s i (n - 1)) x.minutes)

  thin_rows : (x : Rate) (i n : ℕ) → row_shows Minutes s x.minutes x.records i (n + 1) ≡ shows_thin x s i n
  unfolding row_shows shows_thin block
  thin_rows x i n =
      let z : n + 1 - 1 ≡ n = omega arith in
      rw (z, minute_add s i (n + 1), ← test_later (minute s i) x.minutes (minutes_in s i (n + 1)))

  -- in a run that repeats, the starts of one round are all
  module _ (x : Rate) (c : ℕ) (gap_again : (i : ℕ) → s.gap (i + c) ≡ s.gap i) (size_again : (i : ℕ) → s.size (i + c) ≡ s.size i) where
    pub full_again : (i n : ℕ) → shows_full x s (i % c) n ≡ shows_full x s i n
    full_again i n = sym (full_rows x (i % c) n) ∙ rows_again Records (exchanged s) c size_again gap_again x.records x.minutes i n ∙ full_rows x i n

    pub thin_again : (i n : ℕ) → shows_thin x s (i % c) n ≡ shows_thin x s i n
    thin_again i n = sym (thin_rows x (i % c) n) ∙ rows_again Minutes s c gap_again size_again x.minutes x.records i (n + 1) ∙ thin_rows x i n

  -- what goes over some minutes has a report
  pub some_reports : (x : Rate) (i n : ℕ) → row_shows Minutes s x.minutes x.records i n ≡ true → 1 ≤ n
  unfolding block
  some_reports x i n e = block_some s.gap i n x.minutes ((row_means Minutes s x.minutes x.records i n).0 e).0

  thin_found : (x : Rate) (c : ℕ) (best : Option Row) → Found (row_shows Minutes s x.minutes x.records) c best → Found (shows_thin x s) c (between best)
  thin_found x c None none = λ i n e. none i (n + 1) (thin_rows x i n ∙ e)
  thin_found x c (Some row) is =
      let z : row.reports - 1 + 1 ≡ row.reports = omega (arith, some_reports x row.first row.reports is.shown) in
      record {
        shown = sym (thin_rows x row.first (row.reports - 1)) ∙ rw z is.shown;
        fewest = λ i n e. omega (arith, is.fewest i (n + 1) (thin_rows x i n ∙ e));
        lowest_one = λ i e. is.lowest_one i (rw z at (thin_rows x i (row.reports - 1) ∙ e));
        inside = is.inside;
      }

  module _ (later : (i : ℕ) → 1 ≤ s.gap i) where
    minutes_least : (i n : ℕ) → n ≤ minutes_in s i n
    unfolding block
    minutes_least i n = rw mul-one at (block_least s.gap 1 later i n)

    pub full_few : (x : Rate) (i n : ℕ) → shows_full x s i n ≡ true → n ≤ x.minutes
    unfolding block
    full_few x i n e = let k = (full_means x i n).0 e in omega (arith, k.1, minute_add s i (n - 1), minutes_least i (n - 1))

    -- where more reports than P show it, the first P of them do
    pub thin_few : (x : Rate) (i n : ℕ) → shows_thin x s i n ≡ true → (j : ℕ) × ((k : ℕ) × ((k ≤ x.minutes) × (shows_thin x s j k ≡ true)))
    unfolding block
    thin_few x i n e = ⊎_elim first_ones (λ few. (i, (n, (few, e)))) (lt_cases x.minutes n)
      where
        first_ones : x.minutes < n → (j : ℕ) × ((k : ℕ) × ((k ≤ x.minutes) × (shows_thin x s j k ≡ true)))
        first_ones more =
            let p = x.minutes in
            let apart : minute s i + p < minute s (i + (p + 1)) = omega (arith, minute_add s i (p + 1), minutes_least i (p + 1)) in
            let part = block_part s.size (i + 1) p n (omega arith) in
            (i, (p, (omega arith, (thin_means x i p).1 (apart, omega (arith, ((thin_means x i n).0 e).1)))))

-- the rows of a cycle
module _ (xs : List (List ℕ)) (ok : Walkable (pairs_in Minutes xs)) (x : Rate) (best : Option Row) where
  pub full_given : Found (row_shows Records (run_in Records xs) x.records x.minutes) (length xs) best → best ≡ shortest_full (Some x) (pairs_in Minutes xs)
  unfolding shortest_full
  full_given found =
      let ps = pairs_in Minutes xs in
      let s = run_in Minutes xs in
      let same : row_shows Records (run_in Records xs) x.records x.minutes ≡ shows_full x s = rw (by_records xs) (λ k i n. full_rows s x i n k) in
      found_given (shows_full x s) (length ps) x.minutes ok.some (full_again s x (length ps) (gap_again ps) (size_again ps))
      (λ i n e. (i, (n, (full_few s ok.later x i n e, e)))) best (rw length_pairs_in (rw same at found))

  pub thin_given : Found (row_shows Minutes (run_in Minutes xs) x.minutes x.records) (length xs) best → between best ≡ shortest_thin (Some x) (pairs_in Minutes xs)
  unfolding shortest_thin
  thin_given found =
      let ps = pairs_in Minutes xs in
      let s = run_in Minutes xs in
      found_given (shows_thin x s) (length ps) x.minutes ok.some (thin_again s x (length ps) (gap_again ps) (size_again ps))
      (thin_few s ok.later x) (between best) (thin_found s x (length ps) best (rw length_pairs_in found))
