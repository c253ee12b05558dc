-- A stretch is the plain sum, over the reports, of the sizes at its minutes: what each of the first a + w reports adds. Where no gap
-- is 0, no later report is at those minutes.
use Prim.Native.Nat.{ℕ, zero, suc, ◌+◌, ◌≤◌}
use native.Mathlib.Omega.{arith}
use native.Mathlib.Nat.{add_comm, add-zero}
use native.Mathlib.Numerals.{add-one}
use mathlib.Core.Path.{◌≡◌, sym, ◌∙◌}
use mathlib.Core.Logic.{⊎_elim}
use mathlib.Core.Bool.{and-false, and-true}
use borrow.Author.Tests.{lt-ltb, le-ltb}
use Rattle.numbers.proofs.Cases.{lt_cases}
use Rattle.schedule.specs.Schedules.{Schedule, sum, minute, held_from, stretch, share}
use Rattle.schedule.proofs.Sums.{sum_add, sum_block, block, block_none, block_more, block_first}
use Rattle.schedule.proofs.Stretches.{held_from_none, held_from_past, held_from_more}
use Rattle.schedule.proofs.Before.{minute_least, minute_more, minute_mono}

module _ (s : Schedule) (a w : ℕ) where
  nothing : (lo n : ℕ) → a + w ≤ minute s lo → block (share s a w) lo n ≡ 0
  unfolding share
  nothing lo zero h = block_none (share s a w) lo
  nothing lo (suc n) h =
      rw (← add-one n, block_more (share s a w) lo n, nothing lo n h, le-ltb (minute s (lo + n)) (a + w) (omega (arith, minute_mono s lo (lo + n) (omega arith))), and-false)

  rows : (n i : ℕ) → held_from s a (a + w) n i (minute s i) ≡ block (share s a w) i n
  unfolding share
  rows zero i = rw (held_from_none s a (a + w) i (minute s i), block_none (share s a w) i)
  rows (suc n) i =
      let ih : held_from s a (a + w) n (i + 1) (minute s (i + 1)) ≡ block (share s a w) (i + 1) n = rows n (i + 1) in
      ⊎_elim
      (λ g.
      rw (
        ← add-one n,
        held_from_more s a (a + w) n i (minute s i) (lt-ltb (minute s i) (a + w) g),
        ← minute_more s i,
        ih,
        add_comm n 1,
        block_first (share s a w) i n,
        lt-ltb (minute s i) (a + w) g,
        and-true,
      ))
      (λ g. rw (held_from_past s a (a + w) (suc n) i (minute s i) (le-ltb (minute s i) (a + w) g), nothing i (suc n) g))
      (lt_cases (minute s i) (a + w))

pub stretch_sum : (s : Schedule) (a w : ℕ) → stretch s a w ≡ sum (share s a w) (a + w)
unfolding stretch minute sum
stretch_sum s a w = rows s a w (a + w) 0 ∙ sym (sum_block (share s a w) (a + w))

-- Where no gap is 0, however many reports more are looked at, none of them adds anything.
pub stretch_is_sum : (s : Schedule) → ((i : ℕ) → 1 ≤ s.gap i) → (a w more : ℕ) → stretch s a w ≡ sum (share s a w) (a + w + more)
stretch_is_sum s later a w more =
    rw (sum_add (share s a w) (a + w) more, nothing s a w (a + w) more (minute_least s later (a + w)), add-zero) (stretch_sum s a w)
