-- What delays do to gaps and stretches. A gap g of the schedule becomes some gap from g - J to g + J, and each of those by some choice.
-- A report that is late by at most J and arrives at the R minutes from a was planned for the R + J minutes that end with them, and one
-- that was planned for the first P - J of P minutes arrives at those P. Each bound is reached: for the first, delay every report that
-- was planned before minute a + J up to that minute, as far as J allows; for the second, be J late from the end of the P - J minutes on.
use Prim.Native.Nat.{ℕ, ◌+◌, ◌-◌, ◌*◌, ◌≤◌, ◌<◌, min}
use native.Mathlib.Omega.{arith}
use mathlib.Core.Path.{◌≡◌, refl}
use mathlib.Core.Bool.{Bool, true, false, cond}
use lib.Dec.{leb, eqb}
use borrow.Author.Tests.{leb-true, leb-false, eq-eqb, ne_eqb}
use Rattle.schedule.specs.Schedules.{Schedule, minute, stretch}
use Rattle.schedule.specs.Timed.{timed_stretch, timed_gap, planned}
use Rattle.schedule.proofs.Before.{minute_least, minute_more}
use Rattle.schedule.proofs.Timed.{Within, within, planned_stretch}
use Rattle.lateness.specs.Delays.{delayed, UpTo}

-- a delayed report is no earlier than its own minute
pub delayed_later : (s : Schedule) → ((i : ℕ) → 1 ≤ s.gap i) → (delay : ℕ → ℕ) (i : ℕ) → i ≤ (delayed s delay).minute i
delayed_later s later delay i = omega (arith, minute_least s later i)

module _ (s : Schedule) (lateness : ℕ) where
  -- the place of report i's gap among those from g - J to g + J
  pub delayed_gap : (delay : ℕ → ℕ) → UpTo lateness delay → (i : ℕ)
      → timed_gap (delayed s delay) i ≡ s.gap i + (lateness + delay (i + 1) - delay i) - lateness
  delayed_gap delay h i = rw (minute_more s i) (omega (arith, h i))

  -- delays that give report j's gap the place x among them
  pub gap_delay : ℕ → ℕ → ℕ → ℕ
  gap_delay j x i = cond (eqb i j) (lateness - x) (x - lateness)

  -- onto minute a + J, as far as J minutes lead
  pub full_delay : ℕ → ℕ → ℕ
  full_delay a i = min lateness (a + lateness - minute s i)

  -- J late from the end of the P - J minutes on
  pub thin_delay : ℕ → ℕ → ℕ → ℕ
  thin_delay a p i = cond (leb (a + (p - lateness)) (minute s i)) lateness 0

  either_right : (b : Bool) (x y : ℕ) → x ≤ lateness → y ≤ lateness → cond b x y ≤ lateness
  either_right true x y h k = h
  either_right false x y h k = k

  pub gap_delay_right : (j x : ℕ) → x ≤ 2 * lateness → UpTo lateness (gap_delay j x)
  unfolding gap_delay
  gap_delay_right j x h i = either_right (eqb i j) (lateness - x) (x - lateness) (omega arith) (omega arith)

  pub full_delay_right : (a : ℕ) → UpTo lateness (full_delay a)
  unfolding full_delay
  full_delay_right a i = omega arith

  pub thin_delay_right : (a p : ℕ) → UpTo lateness (thin_delay a p)
  unfolding thin_delay
  thin_delay_right a p i = either_right (leb (a + (p - lateness)) (minute s i)) lateness 0 (omega arith) (omega arith)

  pub gap_delay_gap : (j x : ℕ) → timed_gap (delayed s (gap_delay j x)) j ≡ s.gap j + x - lateness
  unfolding gap_delay
  gap_delay_gap j x = rw (minute_more s j, eq-eqb j j refl, ne_eqb (j + 1) j (λ e. omega arith)) (omega arith)

  thin_within : (a p i : ℕ) → Within (delayed s (thin_delay a p)) a p i → Within (planned s) a (p - lateness) i
  unfolding thin_delay
  thin_within a p i = pick (leb (a + (p - lateness)) (minute s i)) refl
    where
      pick : (b : Bool) → leb (a + (p - lateness)) (minute s i) ≡ b
          → (a ≤ minute s i + cond b lateness 0) × (minute s i + cond b lateness 0 < a + p) → Within (planned s) a (p - lateness) i
      pick true e q = absurd (omega (arith, leb-true (a + (p - lateness)) (minute s i) e))
      pick false e q = (omega arith, leb-false _ _ e)

  module _ (later : (i : ℕ) → 1 ≤ s.gap i) where
    pub delayed_most : (delay : ℕ → ℕ) → UpTo lateness delay → (a r : ℕ)
        → timed_stretch (delayed s delay) a r ≤ stretch s (a - lateness) (r + lateness)
    delayed_most delay h a r =
        rw (← planned_stretch s (a - lateness) (r + lateness))
        (within (delayed s delay) (planned s) (λ i. refl) (minute_least s later) a r (a - lateness) (r + lateness)
        (λ i q. (omega (arith, h i), omega (arith, h i))))

    pub full_delay_lem : (a r : ℕ) → 1 ≤ r → stretch s a (r + lateness) ≤ timed_stretch (delayed s (full_delay a)) (a + lateness) r
    unfolding full_delay
    full_delay_lem a r some =
        rw (← planned_stretch s a (r + lateness))
        (within (planned s) (delayed s (full_delay a)) (λ i. refl) (delayed_later s later (full_delay a)) a (r + lateness) (a + lateness) r
        (λ i q. (omega arith, omega arith)))

    pub delayed_least : (delay : ℕ → ℕ) → UpTo lateness delay → (a p : ℕ)
        → stretch s a (p - lateness) ≤ timed_stretch (delayed s delay) a p
    delayed_least delay h a p =
        rw (← planned_stretch s a (p - lateness))
        (within (planned s) (delayed s delay) (λ i. refl) (delayed_later s later delay) a (p - lateness) a p
        (λ i q. (omega (arith, h i), omega (arith, h i))))

    pub thin_delay_lem : (a p : ℕ) → timed_stretch (delayed s (thin_delay a p)) a p ≤ stretch s a (p - lateness)
    thin_delay_lem a p =
        rw (← planned_stretch s a (p - lateness))
        (within (delayed s (thin_delay a p)) (planned s) (λ i. refl) (minute_least s later) a p a (p - lateness) (thin_within a p))
