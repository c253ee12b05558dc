-- Schedules of one gap g: report i is at minute i × g, so ⌈t/g⌉ reports come before minute t. A stretch of
-- w minutes has from w / g rounded down to w / g rounded up reports, and what it holds is the sizes of a block of them.
use Prim.Native.Nat.{ℕ, ◌+◌, ◌-◌, ◌*◌, ◌/◌, ◌<◌}
use native.Mathlib.Omega.{arith}
use mathlib.Core.Path.{◌≡◌}
use mathlib.Core.Logic.{◌↔◌}
use Rattle.numbers.specs.Numbers.{ceil}
use Rattle.numbers.proofs.Ceilings.{lt_ceil_iff, ceil_le_self, ceil_times, ceil_times_add, ceil_after, ceil_after_add}
use Rattle.schedule.specs.Schedules.{minute, stretch}
use Rattle.schedule.proofs.Sums.{sum_const, block}
use Rattle.schedule.proofs.Stretches.{stretch_block}
use Rattle.even.specs.Even.{evenly}

module _ (g : ℕ) (pos : 0 < g) where
  module _ (f : ℕ → ℕ) where
    minute_even : (i : ℕ) → minute (evenly g f) i ≡ i * g
    unfolding minute
    minute_even i = sum_const g i

    before_iff : (t i : ℕ) → (minute (evenly g f) i < t) ↔ (i < ceil t g)
    before_iff t i = let h = lt_ceil_iff t g i pos in rw (minute_even i) (h.1, h.0)

    pub even_stretch : (a w : ℕ) → stretch (evenly g f) a w ≡ block f (ceil a g) (ceil (a + w) g - ceil a g)
    even_stretch a w =
        stretch_block (evenly g f) a w (ceil a g) (ceil (a + w) g)
        (before_iff a) (before_iff (a + w)) (ceil_le_self g pos (a + w))

    -- a stretch that starts at report j has ⌈r / g⌉ reports, and one that starts a minute after it ⌊p / g⌋
    pub stretch_at_report : (j r : ℕ) → stretch (evenly g f) (j * g) r ≡ block f j (ceil r g)
    stretch_at_report j r =
        let z : j + ceil r g - j ≡ ceil r g = omega arith in
        rw (even_stretch (j * g) r, ceil_times g pos j, ceil_times_add g pos j r, z)

    pub stretch_after_report : (j p : ℕ) → stretch (evenly g f) (j * g + 1) p ≡ block f (j + 1) (p / g)
    stretch_after_report j p =
        let z : j + 1 + p / g - (j + 1) ≡ p / g = omega arith in
        rw (even_stretch (j * g + 1) p, ceil_after g pos j, ceil_after_add g pos j p, z)
