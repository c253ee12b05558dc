-- Schedules that repeat after c reports, in a round of `minute s c` minutes: minutes and stretches a round later, the whole rounds
-- in a stretch, and the starts of one round at which the rules need be shown.
use Prim.Native.Nat.{ℕ, zero, suc, ◌+◌, ◌-◌, ◌*◌, ◌/◌, ◌%◌, ◌≤◌, ◌<◌}
use native.Mathlib.Omega.{arith}
use native.Mathlib.Nat.{add_assoc, add-zero, zero-add, add_comm, suc-mul, zero-mul, mod-add-div', div-add-mod', mod-lt}
use mathlib.Core.Path.{◌≡◌, sym, ◌∙◌, ap}
use mathlib.Core.Logic.{◌↔◌}
use Rattle.schedule.specs.Schedules.{Schedule, sum, InRounds, minute, begun_at, stretch}
use Rattle.schedule.proofs.Sums.{sum_again, sum_whole, block_round}
use Rattle.schedule.proofs.Stretches.{stretch_block}
use Rattle.schedule.proofs.Begun.{before_begun, stretch_begun}
use Rattle.schedule.proofs.Before.{reports_before, minute_least, before_iff, before_le, stretch_add, fullest_at_report, thinnest_after_report}

pub minute_again : (s : Schedule) (c : ℕ) → ((i : ℕ) → s.gap (i + c) ≡ s.gap i) → (i : ℕ) → minute s (i + c) ≡ minute s i + minute s c
unfolding minute
minute_again s c gap_again i = sum_again s.gap c gap_again i

-- report j stands where report j % c does, j / c rounds later
pub minute_whole : (s : Schedule) (c : ℕ) → ((i : ℕ) → s.gap (i + c) ≡ s.gap i) → InRounds c (minute s)
unfolding minute
minute_whole s c gap_again = sum_whole s.gap c gap_again

module _ (s : Schedule) (later : (i : ℕ) → 1 ≤ s.gap i) (c : ℕ) (size_again : (i : ℕ) → s.size (i + c) ≡ s.size i) (gap_again : (i : ℕ) → s.gap (i + c) ≡ s.gap i) where
  -- begun at the next round it is the same schedule
  begun_same : begun_at s c ≡ s
  unfolding begun_at
  begun_same = λ j. record {
    size = λ i. (ap s.size (add_comm c i) ∙ size_again i) j;
    gap = λ i. (ap s.gap (add_comm c i) ∙ gap_again i) j;
  }

  -- a round later there are c reports more before
  before_again : (a i : ℕ) → minute s i < a + minute s c ↔ i < reports_before s a + c
  before_again a i = rw (add_comm a (minute s c), add_comm (reports_before s a) c) (rw begun_same at (before_begun s later c a i))

  -- every stretch of one round holds the records of a round
  pub stretch_round : (a : ℕ) → stretch s a (minute s c) ≡ sum s.size c
  stretch_round a =
      let z : reports_before s a + c - reports_before s a ≡ c = omega arith in
      rw z at
      (stretch_block s a (minute s c) (reports_before s a) (reports_before s a + c) (before_iff s later a) (before_again a) (omega (arith, before_le s later a, minute_least s later c)))
      ∙ block_round s.size c size_again (reports_before s a)

  pub stretch_again : (a w : ℕ) → stretch s (a + minute s c) w ≡ stretch s a w
  stretch_again a w = rw (add_comm a (minute s c)) (sym (rw begun_same at (stretch_begun s later c a w)))

  pub stretch_rounds : (a q w : ℕ) → stretch s (a + q * minute s c) w ≡ stretch s a w
  stretch_rounds a zero w = rw (zero-mul, add-zero)
  stretch_rounds a (suc q) w = rw (suc-mul, ← add_assoc a (q * minute s c) (minute s c), stretch_again (a + q * minute s c) w) (stretch_rounds a q w)

  -- every stretch is like one that starts in the first round
  pub stretch_first : (a w : ℕ) → stretch s a w ≡ stretch s (a % minute s c) w
  stretch_first a w =
      ap (λ (x : ℕ). stretch s x w) (sym (mod-add-div' a (minute s c))) ∙ stretch_rounds (a % minute s c) (a / minute s c) w

  pub stretch_more : (a q w : ℕ) → stretch s a (q * minute s c + w) ≡ q * sum s.size c + stretch s a w
  stretch_more a zero w = rw (zero-mul, zero-mul, zero-add, zero-add)
  stretch_more a (suc q) w =
      let n : suc q * minute s c + w ≡ minute s c + (q * minute s c + w) = rw suc-mul (omega arith) in
      rw (n, stretch_add s later a (minute s c) (q * minute s c + w), stretch_round a, stretch_again a, stretch_more a q w, suc-mul)
      (omega arith)

  -- a stretch holds its whole rounds times the records of a round, and what the minutes left over hold
  pub stretch_whole : (a w : ℕ) → stretch s a w ≡ w / minute s c * sum s.size c + stretch s a (w % minute s c)
  stretch_whole a w = ap (stretch s a) (sym (div-add-mod' w (minute s c))) ∙ stretch_more a (w / minute s c) (w % minute s c)

  module _ (some : 0 < c) where
    -- the supply rule need be shown only at the reports of one round
    pub full_at_report : (w b : ℕ) → ((j : ℕ) → j < c → stretch s (minute s j) w ≤ b) → (a : ℕ) → stretch s a w ≤ b
    full_at_report w b h a =
        let j = reports_before s a in
        let m : minute s j ≡ minute s (j % c) + j / c * minute s c = omega (arith, minute_whole s c gap_again j) in
        let e : stretch s (minute s j) w ≡ stretch s (minute s (j % c)) w = rw m (stretch_rounds (minute s (j % c)) (j / c) w) in
        omega (arith, fullest_at_report s later a w, e, h (j % c) (mod-lt j some))

    thin : (w l : ℕ) → ((j : ℕ) → j < c → l ≤ stretch s (minute s j + 1) w) → (a : ℕ) → 0 < a → l ≤ stretch s a w
    thin w l h a p =
        let j = reports_before s a - 1 in
        let m : minute s j + 1 ≡ minute s (j % c) + 1 + j / c * minute s c = omega (arith, minute_whole s c gap_again j) in
        let e : stretch s (minute s j + 1) w ≡ stretch s (minute s (j % c) + 1) w = rw m (stretch_rounds (minute s (j % c) + 1) (j / c) w) in
        omega (arith, thinnest_after_report s later a w p, e, h (j % c) (mod-lt j some))

    -- the demand rule need be shown only a minute after each of them; a start at 0 is like one a round later
    pub thin_after_report : (w l : ℕ) → ((j : ℕ) → j < c → l ≤ stretch s (minute s j + 1) w) → (a : ℕ) → l ≤ stretch s a w
    thin_after_report w l h a =
        rw (stretch_again a w) at (thin w l h (a + minute s c) (omega (arith, minute_least s later c)))
