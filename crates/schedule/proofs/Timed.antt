-- Reports at given minutes. For a schedule's own minutes their stretches and rules are the schedule's. And one stretch against another, report
-- by report: where each report that is at the minutes of the one is at those of the other, the first holds no more.
use Prim.Native.Nat.{ℕ, zero, suc, ◌+◌, ◌≤◌, ◌<◌}
use native.Mathlib.Omega.{arith}
use native.Mathlib.Nat.{le_trans, add-zero}
use native.Mathlib.Numerals.{add-one}
use mathlib.Core.Path.{◌≡◌, sym}
use mathlib.Core.Logic.{◌↔◌, ⊎_elim}
use mathlib.Core.Bool.{and-false}
use borrow.Author.Tests.{le-leb, lt-leb, lt-ltb, le-ltb}
use Rattle.numbers.proofs.Cases.{lt_cases}
use Rattle.spec.specs.declared.Rate.{Rate}
use Rattle.std.specs.Prelude.{Option, None, Some}
use Rattle.spec.specs.declared.Spec.{Spec}
use Rattle.schedule.specs.Schedules.{Schedule, sum, stretch, share}
use Rattle.schedule.specs.Timed.{Timed, timed_share, timed_stretch, timed_gap, planned}
use Rattle.schedule.specs.Rules.{Obeys, SupplyKept, DemandMet, TimedObeys}
use Rattle.schedule.proofs.Sums.{sum_add, block, block_none, block_more}
use Rattle.schedule.proofs.Before.{minute_more}
use Rattle.schedule.proofs.StretchSum.{stretch_sum}

-- for a schedule's own minutes it is the stretch of before
pub planned_stretch : (s : Schedule) (a w : ℕ) → timed_stretch (planned s) a w ≡ stretch s a w
unfolding timed_stretch timed_share share
planned_stretch s a w = sym (stretch_sum s a w)

module _ (spec : Spec) (s : Schedule) where
  planned_gap : (i : ℕ) → timed_gap (planned s) i ≡ s.gap i
  planned_gap i = rw (minute_more s i) (omega arith)

  planned_supply : (r : Option Rate) → SupplyKept r (timed_stretch (planned s)) ↔ SupplyKept r (stretch s)
  planned_supply None = (λ h. h, λ h. h)
  planned_supply (Some x) = (λ h a. rw (planned_stretch s a x.minutes) at (h a), λ h a. rw (planned_stretch s a x.minutes) (h a))

  planned_demand : (r : Option Rate) → DemandMet r (timed_stretch (planned s)) ↔ DemandMet r (stretch s)
  planned_demand None = (λ h. h, λ h. h)
  planned_demand (Some x) = (λ h a. rw (planned_stretch s a x.minutes) at (h a), λ h a. rw (planned_stretch s a x.minutes) (h a))

  -- and the four rules are those of before
  pub planned_obeys : TimedObeys spec (planned s) ↔ Obeys spec s
  planned_obeys = (
    λ o. record {
      sizes = o.sizes;
      gaps = λ i. rw (planned_gap i) at (o.gaps i);
      supply = (planned_supply spec.supply).0 o.supply;
      demand = (planned_demand spec.demand).0 o.demand;
    },
    λ o. record {
      sizes = o.sizes;
      gaps = λ i. rw (planned_gap i) (o.gaps i);
      supply = (planned_supply spec.supply).1 o.supply;
      demand = (planned_demand spec.demand).1 o.demand;
    },
  )

-- report i is at the minutes a to a + w - 1
abbrev pub Within : Timed → ℕ → ℕ → ℕ → Type 0
Within t a w i = (a ≤ t.minute i) × (t.minute i < a + w)

module _ (t : Timed) (a w i : ℕ) where
  share_inside : Within t a w i → timed_share t a w i ≡ t.size i
  unfolding timed_share
  share_inside h = rw (le-leb _ _ h.0, lt-ltb _ _ h.1)

  share_early : t.minute i < a → timed_share t a w i ≡ 0
  unfolding timed_share
  share_early h = rw (lt-leb _ _ h)

  share_late : a + w ≤ t.minute i → timed_share t a w i ≡ 0
  unfolding timed_share
  share_late h = rw (le-ltb _ _ h, and-false)

-- Report i is at minute i or later, so from report a + w on at minute a + w or later: however many more are looked at, none adds anything.
module _ (t : Timed) (later : (i : ℕ) → i ≤ t.minute i) (a w : ℕ) where
  nothing_past : (n : ℕ) → block (timed_share t a w) (a + w) n ≡ 0
  nothing_past zero = block_none (timed_share t a w) (a + w)
  nothing_past (suc n) =
      rw (← add-one n, block_more (timed_share t a w) (a + w) n, nothing_past n, share_late t a w (a + w + n) (omega (arith, later (a + w + n))))

  pub timed_sum : (more : ℕ) → timed_stretch t a w ≡ sum (timed_share t a w) (a + w + more)
  unfolding timed_stretch
  timed_sum more = rw (sum_add (timed_share t a w) (a + w) more, nothing_past more, add-zero)

  -- the first n reports add no more than all of them
  timed_first : (n : ℕ) → sum (timed_share t a w) n ≤ timed_stretch t a w
  timed_first n =
      let e : n + (a + w) ≡ a + w + n = omega arith in
      rw (timed_sum n, ← e) (omega (arith, sum_add (timed_share t a w) n (a + w)))

sum_most : (f g : ℕ → ℕ) (n : ℕ) → ((i : ℕ) → f i ≤ g i) → sum f n ≤ sum g n
unfolding sum
sum_most f g zero h = omega arith
sum_most f g (suc n) h = omega (arith, sum_most f g n h, h n)

-- Each report at the v minutes from a of t is at the w minutes from b of u.
module _ (t u : Timed) (same : (i : ℕ) → t.size i ≡ u.size i) (later : (i : ℕ) → i ≤ u.minute i) (a v b w : ℕ) where
  pub within : ((i : ℕ) → Within t a v i → Within u b w i) → timed_stretch t a v ≤ timed_stretch u b w
  unfolding timed_stretch
  within h = le_trans (sum_most (timed_share t a v) (timed_share u b w) (a + v) each) (timed_first u later b w (a + v))
    where
      each : (i : ℕ) → timed_share t a v i ≤ timed_share u b w i
      each i =
          ⊎_elim
          (λ early. omega (arith, share_early t a v i early))
          (λ from.
          ⊎_elim
          (λ until. omega (arith, share_inside t a v i (from, until), share_inside u b w i (h i (from, until)), same i))
          (λ past. omega (arith, share_late t a v i past))
          (lt_cases (t.minute i) (a + v)))
          (lt_cases (t.minute i) a)
