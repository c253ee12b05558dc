-- The number of reports before a minute, and what it says of stretches: they add up, the fullest start at a report, and the thinnest a
-- minute after one; those that start at a report hold what the longest gap leaves them.
use Prim.Native.Nat.{ℕ, zero, suc, ◌+◌, ◌-◌, ◌*◌, ◌≤◌, ◌<◌}
use native.Mathlib.Omega.{arith}
use native.Mathlib.Nat.{add_assoc, add-zero, zero-add, sub-zero, add-mul, one-mul, zero-mul, le_trans, mul-le-mul_right}
use native.Mathlib.Numerals.{add-one}
use mathlib.Core.Path.{◌≡◌, refl}
use mathlib.Core.Logic.{◌↔◌, ⊎_elim}
use mathlib.Core.Bool.{Bool, true, false, cond}
use lib.Dec.{ltb}
use borrow.Author.Tests.{ltb-true, ltb-false}
use Rattle.numbers.specs.Numbers.{ceil}
use Rattle.numbers.proofs.Cases.{lt_cases}
use Rattle.numbers.proofs.Ceilings.{lt_ceil_iff}
use Rattle.schedule.specs.Schedules.{Schedule, sum, minute, stretch}
use Rattle.schedule.proofs.Sums.{sum_none, sum_more, sum_block, block, block_add, block_one, block_least, block_part, sum_add}
use Rattle.schedule.proofs.Stretches.{stretch_block}

-- how many reports lie before minute m, counted among the first m: where no gap is 0, report i is at minute i or later
unfoldable pub reports_before : Schedule → ℕ → ℕ
reports_before s m = sum (λ i. cond (ltb (minute s i) m) 1 0) m

module _ (s : Schedule) where
  pub minute_none : minute s 0 ≡ 0
  unfolding minute
  minute_none = sum_none s.gap

  pub minute_more : (i : ℕ) → minute s (i + 1) ≡ minute s i + s.gap i
  unfolding minute
  minute_more i = sum_more s.gap i

  -- the minutes from report i to the one n reports later
  pub minute_add : (i n : ℕ) → minute s (i + n) ≡ minute s i + block s.gap i n
  unfolding minute
  minute_add i n = sum_add s.gap i n

  pub minute_later : (i n : ℕ) → minute s i ≤ minute s (i + n)
  minute_later i zero = rw add-zero (omega arith)
  minute_later i (suc n) = rw (← add-one n, ← add_assoc i n 1, minute_more (i + n)) (omega (arith, minute_later i n))

  pub minute_mono : (i j : ℕ) → i ≤ j → minute s i ≤ minute s j
  minute_mono i j h = let e : j ≡ i + (j - i) = omega arith in rw e (minute_later i (j - i))

  -- of the first n reports, those before minute t
  among : ℕ → ℕ → ℕ
  among t n = sum (λ i. cond (ltb (minute s i) t) 1 0) n

  -- minutes never fall, so these are the first k of them
  record Counted (t n k : ℕ) : Type 0 where
    few : k ≤ n
    inside : (i : ℕ) → i < k → minute s i < t
    outside : (i : ℕ) → k ≤ i → i < n → t ≤ minute s i

  among_right : (t n : ℕ) → Counted t n (among t n)
  unfolding among
  among_right t zero = rw sum_none (record { few = omega arith; inside = λ i h. absurd (omega arith); outside = λ i a b. absurd (omega arith) })
  among_right t (suc n) = rw (← add-one n, sum_more (λ i. cond (ltb (minute s i) t) 1 0) n) (top (ltb (minute s n) t) refl (among_right t n))
    where
      top : (b : Bool) → ltb (minute s n) t ≡ b → Counted t n (among t n) → Counted t (n + 1) (among t n + cond b 1 0)
      top true e ih =
          let all : n ≤ among t n =
          ⊎_elim
          (λ q. absurd (omega (arith, ih.outside (among t n) (omega arith) q, minute_mono (among t n) n (omega arith), ltb-true (minute s n) t e)))
          (λ q. q)
          (lt_cases (among t n) n) in
          record {
            few = omega (arith, ih.few);
            inside = λ i h. omega (arith, minute_mono i n (omega (arith, ih.few)), ltb-true (minute s n) t e);
            outside = λ i a b. absurd (omega arith);
          }
      top false e ih =
          rw add-zero
          (record {
            few = omega (arith, ih.few);
            inside = ih.inside;
            outside = λ i a b.
                ⊎_elim (λ q. ih.outside i a q) (λ q. let z : i ≡ n = omega arith in rw z (ltb-false _ _ e)) (lt_cases i n);
          })

  module _ (later : (i : ℕ) → 1 ≤ s.gap i) where
    pub minute_least : (i : ℕ) → i ≤ minute s i
    minute_least zero = omega arith
    minute_least (suc i) = rw (← add-one i, minute_more i) (omega (arith, minute_least i, later i))

    pub minute_rise : (i j : ℕ) → i < j → minute s i < minute s j
    minute_rise i j h = omega (arith, minute_mono (i + 1) j (omega arith), minute_more i, later i)

    pub minute_iff : (i j : ℕ) → minute s i < minute s j ↔ i < j
    minute_iff i j = (λ h. ⊎_elim (λ q. q) (λ q. absurd (omega (arith, minute_mono j i q))) (lt_cases i j), minute_rise i j)

    pub before_iff : (t i : ℕ) → minute s i < t ↔ i < reports_before s t
    unfolding reports_before among
    before_iff t i =
        let c = among_right t t in (
          λ h.
              ⊎_elim (λ q. q) (λ q. absurd (let r = c.outside i q (omega (arith, minute_least i)) in omega arith)) (lt_cases i (among t t)),
          λ h. c.inside i h,
        )

    -- a number below which just the reports before minute t are is their count
    pub before_is : (t b : ℕ) → ((i : ℕ) → minute s i < t ↔ i < b) → reports_before s t ≡ b
    before_is t b each =
        ⊎_elim
        (λ q. absurd (let r = (before_iff t (reports_before s t)).0 ((each (reports_before s t)).1 q) in omega arith))
        (λ q. ⊎_elim (λ r. absurd (let x = (each b).0 ((before_iff t b).1 r) in omega arith)) (λ r. omega arith) (lt_cases b (reports_before s t)))
        (lt_cases (reports_before s t) b)

    pub before_le : (t : ℕ) → reports_before s t ≤ t
    before_le t =
        ⊎_elim (λ q. absurd (let r = (before_iff t t).1 q in omega (arith, minute_least t))) (λ q. q) (lt_cases t (reports_before s t))

    pub stretch_before : (a w : ℕ) → stretch s a w ≡ block s.size (reports_before s a) (reports_before s (a + w) - reports_before s a)
    stretch_before a w = stretch_block s a w (reports_before s a) (reports_before s (a + w)) (before_iff a) (before_iff (a + w)) (before_le (a + w))

    -- the next report is the first at minute t or later
    pub before_reach : (t : ℕ) → t ≤ minute s (reports_before s t)
    before_reach t =
        ⊎_elim (λ q. absurd (let r = (before_iff t (reports_before s t)).0 q in omega arith)) (λ q. q) (lt_cases (minute s (reports_before s t)) t)

    pub before_mono : (t t' : ℕ) → t ≤ t' → reports_before s t ≤ reports_before s t'
    before_mono t t' h =
        ⊎_elim (λ q. absurd (let r = (before_iff t (reports_before s t')).1 q in omega (arith, before_reach t'))) (λ q. q) (lt_cases (reports_before s t') (reports_before s t))

    pub stretch_add : (a v w : ℕ) → stretch s a (v + w) ≡ stretch s a v + stretch s (a + v) w
    stretch_add a v w =
        let p : reports_before s a ≤ reports_before s (a + v) = before_mono a (a + v) (omega arith) in
        let q : reports_before s (a + v) ≤ reports_before s (a + v + w) = before_mono (a + v) (a + v + w) (omega arith) in
        let x : reports_before s (a + v + w) - reports_before s a ≡ reports_before s (a + v) - reports_before s a + (reports_before s (a + v + w) - reports_before s (a + v)) = omega arith in
        let y : reports_before s a + (reports_before s (a + v) - reports_before s a) ≡ reports_before s (a + v) = omega arith in
        rw (stretch_before a (v + w), ← add_assoc a v w, x, block_add, y, ← stretch_before a v, ← stretch_before (a + v) w)

    pub stretch_longer : (a w w' : ℕ) → w ≤ w' → stretch s a w ≤ stretch s a w'
    stretch_longer a w w' h =
        rw (stretch_before a w, stretch_before a w')
        (block_part s.size (reports_before s a) _ _ (omega (arith, before_mono (a + w) (a + w') (omega arith))))

    pub before_minute : (j : ℕ) → reports_before s (minute s j) ≡ j
    before_minute j =
        ⊎_elim
        (λ q. absurd (let r = (before_iff (minute s j) (reports_before s (minute s j))).0 (minute_rise (reports_before s (minute s j)) j q) in omega arith))
        (λ q. ⊎_elim (λ r. absurd (let t = (before_iff (minute s j) j).1 r in omega arith)) (λ r. omega arith) (lt_cases j (reports_before s (minute s j))))
        (lt_cases (reports_before s (minute s j)) j)

    pub before_next : (j : ℕ) → reports_before s (minute s j + 1) ≡ j + 1
    before_next j =
        let u = (before_iff (minute s j + 1) j).0 (omega arith) in
        ⊎_elim
        (λ q. absurd (let r = (before_iff (minute s j + 1) (j + 1)).1 q in omega (arith, minute_rise j (j + 1) (omega arith))))
        (λ q. omega arith)
        (lt_cases (j + 1) (reports_before s (minute s j + 1)))

    -- what the first m minutes hold is what the reports before minute m hold
    pub first_minutes : (m : ℕ) → stretch s 0 m ≡ sum s.size (reports_before s m)
    first_minutes m =
        let z : reports_before s 0 ≡ 0 = omega (arith, before_le 0) in
        rw (stretch_before 0 m, z, zero-add, sub-zero, sum_block s.size (reports_before s m))

    -- the minutes from a report on hold that report, and what the minutes after it hold
    pub stretch_after : (j w : ℕ) → stretch s (minute s j) (w + 1) ≡ s.size j + stretch s (minute s j + 1) w
    stretch_after j w =
        let e : w + 1 ≡ 1 + w = omega arith in
        let z : j + 1 - j ≡ 1 = omega arith in
        rw (e, stretch_add (minute s j) 1 w, stretch_before (minute s j) 1, before_minute j, before_next j, z, block_one s.size j)

    -- The fullest stretches start at a report.
    pub fullest_at_report : (a w : ℕ) → stretch s a w ≤ stretch s (minute s (reports_before s a)) w
    fullest_at_report a w =
        let j = reports_before s a in
        rw (stretch_before a w, stretch_before (minute s j) w, before_minute j)
        (block_part s.size j _ _ (omega (arith, before_mono (a + w) (minute s j + w) (omega (arith, before_reach a)))))

    -- The thinnest start a minute after one.
    pub thinnest_after_report : (a w : ℕ) → 0 < a → stretch s (minute s (reports_before s a - 1) + 1) w ≤ stretch s a w
    thinnest_after_report a w h =
        let p : 0 < reports_before s a = (before_iff a 0).0 (omega (arith, minute_none)) in
        let j = reports_before s a - 1 in
        let e : j + 1 ≡ reports_before s a = omega arith in
        let m : minute s j < a = (before_iff a j).1 (omega arith) in
        rw (stretch_before a w, stretch_before (minute s j + 1) w, before_next j, e)
        (block_part s.size (reports_before s a) _ _ (omega (arith, before_mono (minute s j + 1 + w) (a + w) (omega arith))))

    -- Where no gap is longer than g, report j + n comes at most n × g minutes after report j. So w minutes that begin with a report have ⌈w/g⌉
    -- reports or more, and hold as many times what each holds at least.
    module _ (g : ℕ) (short : (i : ℕ) → s.gap i ≤ g) where
      minute_most : (j n : ℕ) → minute s (j + n) ≤ minute s j + n * g
      minute_most j zero = rw (add-zero, zero-mul, add-zero) (omega arith)
      minute_most j (suc n) = rw (← add-one n, ← add_assoc j n 1, minute_more (j + n)) (omega (arith, add-mul n 1 g, one-mul g, minute_most j n, short (j + n)))

      count_least : (j w : ℕ) → ceil w g ≤ reports_before s (minute s j + w) - j
      count_least j w =
          let n = reports_before s (minute s j + w) - j in
          let low : j ≤ reports_before s (minute s j + w) = rw (before_minute j) at (before_mono (minute s j) (minute s j + w) (omega arith)) in
          ⊎_elim
          (λ q.
          absurd
          (let near = (lt_ceil_iff w g n (omega (arith, later j, short j))).0 q in
          let r = (before_iff (minute s j + w) (j + n)).0 (omega (arith, minute_most j n)) in
          omega arith))
          (λ q. q)
          (lt_cases n (ceil w g))

      pub stretch_least : (d : ℕ) → ((i : ℕ) → d ≤ s.size i) → (j w : ℕ) → ceil w g * d ≤ stretch s (minute s j) w
      stretch_least d full j w =
          rw (stretch_before (minute s j) w, before_minute j)
          (le_trans (mul-le-mul_right d (count_least j w)) (block_least s.size d full j _))
