-- Rows and stretches show the same. The reports of a stretch that is too full are, from the first of them on, a row; those of one that is too thin
-- lie between the report before it and the first one after it. And the reports of a row are among those of R minutes, those of P minutes
-- among the reports of a row. So a check that says 15 or 16 has a row to give, and every row that is given shows it.
use Prim.Native.Nat.{ℕ, ◌+◌, ◌-◌, ◌≤◌, ◌<◌}
use native.Mathlib.Omega.{arith}
use native.Mathlib.Nat.{mul-one}
use mathlib.Core.Path.{◌≡◌}
use mathlib.Core.Logic.{◌↔◌, ⊎_elim}
use mathlib.Core.Bool.{true}
use mathlib.Core.List.{List}
use lib.ListN.{length}
use Rattle.std.specs.Prelude.{Some}
use Rattle.numbers.proofs.Cases.{lt_cases}
use Rattle.spec.specs.declared.Rate.{Rate}
use Rattle.pairs.specs.declared.Pair.{Pair}
use Rattle.schedule.specs.Schedules.{Schedule, minute, stretch}
use Rattle.schedule.specs.Rules.{TooFull, TooThin}
use Rattle.schedule.proofs.Sums.{block, block_some, block_least, block_part}
use Rattle.schedule.proofs.Before.{reports_before, minute_mono, minute_least, before_iff, before_reach, before_mono, before_minute, before_next, stretch_before, fullest_at_report, thinnest_after_report}
use Rattle.schedule.proofs.Repeats.{stretch_again}
use Rattle.cycle.specs.Cycles.{cycle_run}
use Rattle.cycle.specs.declared.Row.{Row}
use Rattle.cycle.specs.Shortest.{records_in, shows_full, shows_thin, IsShortest}
use Rattle.cycle.proofs.Runs.{gap_again, size_again}
use Rattle.cycle.proofs.ShownRows.{full_means, thin_means}

module _ (s : Schedule) (later : (i : ℕ) → 1 ≤ s.gap i) (x : Rate) where
  -- from a row to a stretch
  full_of_row : (i n : ℕ) → shows_full x s i n ≡ true → x.records < stretch s (minute s i) x.minutes
  unfolding block
  full_of_row i n e =
      let t = (full_means s x i n).0 e in
      let some = block_some s.size i n x.records t.0 in
      let last = (before_iff s later (minute s i + x.minutes) (i + (n - 1))).0 t.1 in
      let part = block_part s.size i n (reports_before s (minute s i + x.minutes) - i) (omega arith) in
      rw (stretch_before s later (minute s i) x.minutes, before_minute s later i) (omega (arith, t.0))

  thin_of_row : (i n : ℕ) → shows_thin x s i n ≡ true → stretch s (minute s i + 1) x.minutes < x.records
  unfolding block
  thin_of_row i n e =
      let t = (thin_means s x i n).0 e in
      let end : reports_before s (minute s i + 1 + x.minutes) ≤ i + (n + 1) =
      ⊎_elim (λ h. absurd (let k = (before_iff s later (minute s i + 1 + x.minutes) (i + (n + 1))).1 h in omega (arith, t.0))) (λ h. h) (lt_cases (i + (n + 1)) (reports_before s (minute s i + 1 + x.minutes))) in
      let part = block_part s.size (i + 1) (reports_before s (minute s i + 1 + x.minutes) - (i + 1)) n (omega arith) in
      rw (stretch_before s later (minute s i + 1) x.minutes, before_next s later i) (omega (arith, t.1))

  -- and from a stretch to a row
  row_of_full : (a : ℕ) → x.records < stretch s a x.minutes → (i : ℕ) × ((n : ℕ) × (shows_full x s i n ≡ true))
  unfolding block
  row_of_full a h =
      let i = reports_before s a in
      let end = reports_before s (minute s i + x.minutes) in
      let held : stretch s (minute s i) x.minutes ≡ records_in s i (end - i) = rw (stretch_before s later (minute s i) x.minutes, before_minute s later i) in
      let more : x.records < records_in s i (end - i) = omega (arith, fullest_at_report s later a x.minutes) in
      let some = block_some s.size i (end - i) x.records more in
      (i, (end - i, (full_means s x i (end - i)).1 (more, (before_iff s later (minute s i + x.minutes) (i + (end - i - 1))).1 (omega arith))))

  row_of_thin : (a : ℕ) → 0 < a → stretch s a x.minutes < x.records → (i : ℕ) × ((n : ℕ) × (shows_thin x s i n ≡ true))
  unfolding block
  row_of_thin a some h =
      let i = reports_before s a - 1 in
      let t = minute s i + 1 in
      let end = reports_before s (t + x.minutes) in
      let n = end - (i + 1) in
      let least : i + 1 ≤ end = rw (before_next s later i) at (before_mono s later t (t + x.minutes) (omega arith)) in
      let held : stretch s t x.minutes ≡ records_in s (i + 1) n = rw (stretch_before s later t x.minutes, before_next s later i) in
      let past : i + (n + 1) ≡ end = omega arith in
      let apart : minute s i + x.minutes < minute s (i + (n + 1)) = rw past (omega (arith, before_reach s later (t + x.minutes))) in
      (i, (n, (thin_means s x i n).1 (apart, omega (arith, thinnest_after_report s later a x.minutes some))))

-- where no size is 0, the shortest row has not many reports: of a 15 all but the last hold no more than B, of a 16 all hold less than L
module _ (s : Schedule) (sizes : (i : ℕ) → 1 ≤ s.size i) (x : Rate) (c : ℕ) where
  records_least : (i n : ℕ) → n ≤ records_in s i n
  unfolding block
  records_least i n = rw mul-one at (block_least s.size 1 sizes i n)

  pub full_most : (row : Row) → IsShortest (shows_full x s) c row → row.reports ≤ x.records + 1
  full_most row is =
      ⊎_elim
      (λ more.
      let n = row.reports - 1 in
      let near = ((full_means s x row.first row.reports).0 is.shown).1 in
      let earlier = minute_mono s (row.first + (n - 1)) (row.first + n) (omega arith) in
      let shown = (full_means s x row.first n).1 (omega (arith, records_least row.first n), omega arith) in
      absurd (omega (arith, is.fewest row.first n shown)))
      (λ few. few)
      (lt_cases (x.records + 1) row.reports)

  pub thin_most : (row : Row) → IsShortest (shows_thin x s) c row → row.reports ≤ x.records + 1
  thin_most row is = omega (arith, ((thin_means s x row.first row.reports).0 is.shown).1, records_least (row.first + 1) row.reports)

-- of a cycle, whose stretches from minute 0 on are like those a round later
module _ (ps : List Pair) (some : 1 ≤ length ps) (later : (i : ℕ) → 1 ≤ (cycle_run ps).gap i) (x : Rate) where
  pub full_shown : TooFull (Some x) (stretch (cycle_run ps)) ↔ ((i : ℕ) × ((n : ℕ) × (shows_full x (cycle_run ps) i n ≡ true)))
  full_shown = (λ h. row_of_full (cycle_run ps) later x h.0 h.1, λ h. (minute (cycle_run ps) h.0, full_of_row (cycle_run ps) later x h.0 h.1.0 h.1.1))

  pub thin_shown : TooThin (Some x) (stretch (cycle_run ps)) ↔ ((i : ℕ) × ((n : ℕ) × (shows_thin x (cycle_run ps) i n ≡ true)))
  thin_shown = (
    λ h.
        let c = length ps in
        row_of_thin (cycle_run ps) later x (h.0 + minute (cycle_run ps) c) (omega (arith, minute_least (cycle_run ps) later c))
        (rw (stretch_again (cycle_run ps) later c (size_again ps) (gap_again ps) h.0 x.minutes) h.1),
    λ h. (minute (cycle_run ps) h.0 + 1, thin_of_row (cycle_run ps) later x h.0 h.1.0 h.1.1),
  )
