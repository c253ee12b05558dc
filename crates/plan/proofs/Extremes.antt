-- Where no row of reports holds more, or takes less time, than as many from the first on, the fullest stretch of its length starts at
-- minute 0: it has the most reports, and the fullest ones. The thinnest is the one that ends with a period, as it is what such a front
-- leaves over of whole periods.
use Prim.Native.Nat.{ℕ, ◌+◌, ◌-◌, ◌*◌, ◌≤◌, ◌<◌}
use native.Mathlib.Omega.{arith}
use native.Mathlib.Nat.{zero-add, le_trans}
use mathlib.Core.Path.{◌≡◌}
use mathlib.Core.Logic.{⊎_elim}
use Rattle.schedule.specs.Schedules.{Schedule, sum, minute, stretch}
use Rattle.numbers.proofs.Cases.{lt_cases}
use Rattle.schedule.proofs.Sums.{sum_none, sum_add, sum_rounds, block, block_part}
use Rattle.schedule.proofs.Before.{reports_before, before_iff, before_minute, before_mono, minute_mono, minute_none, before_reach, stretch_before, first_minutes}
use Rattle.schedule.proofs.Repeats.{stretch_again}

module _ (s : Schedule) (later : (i : ℕ) → 1 ≤ s.gap i)
    (sub : (j n : ℕ) → sum s.size (j + n) ≤ sum s.size j + sum s.size n)
    (super : (j n : ℕ) → sum s.gap j + sum s.gap n ≤ sum s.gap (j + n)) where
  reports : (a w : ℕ) → reports_before s (a + w) ≤ reports_before s a + reports_before s w
  unfolding minute
  reports a w =
      ⊎_elim
      (λ h.
      absurd
      (let r = (before_iff s later (a + w) (reports_before s a + reports_before s w)).1 h in
      omega (arith, super (reports_before s a) (reports_before s w), before_reach s later a, before_reach s later w)))
      (λ h. h)
      (lt_cases (reports_before s a + reports_before s w) (reports_before s (a + w)))

  pub fullest_first : (a w : ℕ) → stretch s a w ≤ stretch s 0 w
  fullest_first a w =
      let j = reports_before s a in
      let n = reports_before s w in
      let u : block s.size j (reports_before s (a + w) - j) ≤ block s.size j n = block_part s.size j _ n (omega (arith, reports a w)) in
      rw (stretch_before s later a w, first_minutes s later w) (le_trans u (omega (arith, sum_add s.size j n, sub j n)))

  -- a run that repeats after k reports, and a stretch of at most u periods
  module _ (k : ℕ) (size_again : (i : ℕ) → s.size (i + k) ≡ s.size i) (gap_again : (i : ℕ) → s.gap (i + k) ≡ s.gap i)
      (w u : ℕ) (fits : w ≤ u * minute s k) where
    -- the front that the last stretch leaves over, and its reports
    t₀ : ℕ
    t₀ = u * minute s k - w

    j₀ : ℕ
    j₀ = reports_before s t₀

    -- u × k reports are before the end of u periods
    whole : reports_before s (u * minute s k) ≡ u * k
    unfolding minute
    whole =
        let e : sum s.gap (u * k) ≡ u * sum s.gap k =
        rw (zero-add, sum_none s.gap, zero-add) at (sum_rounds s.gap k gap_again 0 u) in
        rw e at (before_minute s later (u * k))

    last : stretch s t₀ w ≡ block s.size j₀ (u * k - j₀)
    unfolding t₀ j₀
    last =
        let e : u * minute s k - w + w ≡ u * minute s k = omega arith in
        rw (stretch_before s later t₀ w, e, whole)

    within : j₀ ≤ u * k
    unfolding t₀ j₀
    within = rw whole at (before_mono s later t₀ (u * minute s k) (omega arith))

    -- any later stretch has as many reports
    as_many : (a : ℕ) → 0 < reports_before s a → reports_before s a + (u * k - j₀) ≤ reports_before s (a + w)
    unfolding minute t₀ j₀
    as_many a p = ⊎_elim (λ h. absurd (over h)) (λ h. h) (lt_cases (reports_before s (a + w)) (reports_before s a + (u * k - j₀)))
      where
        over : reports_before s (a + w) < reports_before s a + (u * k - j₀) → ⊥
        over h =
            let i = reports_before s a - 1 in
            let n = u * k - j₀ in
            let m : minute s i < a = (before_iff s later a i).1 (omega arith) in
            let e : j₀ + (i + n) ≡ i + u * k = omega (arith, within) in
            let g : sum s.gap j₀ + sum s.gap (i + n) ≤ sum s.gap i + u * sum s.gap k =
            rw (e, sum_rounds s.gap k gap_again i u) at (super j₀ (i + n)) in
            let r : a + w ≤ sum s.gap (i + n) = le_trans (before_reach s later (a + w)) (minute_mono s (reports_before s (a + w)) (i + n) (omega arith)) in
            omega (arith, before_reach s later t₀)

    -- and holds as much
    least_later : (a : ℕ) → 0 < reports_before s a → stretch s t₀ w ≤ stretch s a w
    least_later a p =
        let j = reports_before s a in
        let n = u * k - j₀ in
        let v : block s.size j n ≤ block s.size j (reports_before s (a + w) - j) = block_part s.size j n _ (omega (arith, as_many a p)) in
        let x : j₀ + (j + n) ≡ j + u * k = omega (arith, within) in
        let y : j₀ + n ≡ 0 + u * k = omega (arith, within) in
        let c : sum s.size (j + u * k) ≤ sum s.size j₀ + sum s.size (j + n) = rw x at (sub j₀ (j + n)) in
        let d : sum s.size (0 + u * k) ≡ sum s.size j₀ + block s.size j₀ n = rw y at (sum_add s.size j₀ n) in
        rw (last, stretch_before s later a w)
        (omega (arith, sum_rounds s.size k size_again j u, sum_rounds s.size k size_again 0 u, sum_none s.size, sum_add s.size j n))

    -- a stretch from minute 0 on is like one a period later
    pub thinnest_last : 0 < minute s k → (a : ℕ) → stretch s (u * minute s k - w) w ≤ stretch s a w
    unfolding t₀
    thinnest_last some a =
        rw (stretch_again s later k size_again gap_again a w) at
        (least_later (a + minute s k) ((before_iff s later (a + minute s k) 0).0 (omega (arith, minute_none s))))
