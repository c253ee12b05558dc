-- The whole rounds in a stretch of a cycle's endless run: what any stretch holds, and how the check divides its minutes.
use Prim.Native.Nat.{ℕ, ◌+◌, ◌-◌, ◌*◌, ◌/◌, ◌%◌, ◌≤◌, ◌<◌}
use native.Mathlib.Omega.{arith}
use native.Mathlib.Nat.{mod-lt, div-le_self, div-add-mod', le_trans}
use mathlib.Core.Path.{◌≡◌}
use mathlib.Core.List.{List}
use lib.ListN.{length}
use Rattle.pairs.specs.declared.Pair.{Pair}
use Rattle.schedule.specs.Schedules.{stretch}
use Rattle.schedule.proofs.Repeats.{stretch_more, stretch_whole}
use Rattle.cycle.specs.declared.windows.Parts.{Parts}
use Rattle.cycle.specs.Cycles.{pair_gap, cycle_run, round, round_records}
use Rattle.cycle.specs.Windows.{IsParts}
use Rattle.cycle.proofs.Runs.{gap_again, size_again, gaps_later, round_some}

-- For every cycle with no gap 0, a stretch holds its whole rounds times the records of a round, and what the minutes left over, fewer
-- than a round's, hold.
pub whole_rounds : (ps : List Pair) → 1 ≤ length ps → ((j : ℕ) → j < length ps → 1 ≤ pair_gap ps j) → (a w : ℕ)
    → (w % round ps < round ps) × (stretch (cycle_run ps) a w ≡ w / round ps * round_records ps + stretch (cycle_run ps) a (w % round ps))
unfolding round round_records
whole_rounds ps some no-gap-0 a w =
    let later = gaps_later ps some no-gap-0 in
    (mod-lt w (round_some ps some later), stretch_whole (cycle_run ps) later (length ps) (size_again ps) (gap_again ps) a w)

-- m minutes in two parts hold what the whole rounds hold, and what the minutes left over hold
pub parts_add : (ps : List Pair) → ((i : ℕ) → 1 ≤ (cycle_run ps).gap i) → (m : ℕ) (x : Parts) → IsParts ps m x → (a : ℕ)
    → stretch (cycle_run ps) a m ≡ x.records + stretch (cycle_run ps) a x.rest
unfolding round round_records
parts_add ps later m x is a = rw (is.records, is.splits) (stretch_more (cycle_run ps) later (length ps) (size_again ps) (gap_again ps) a x.rounds x.rest)

-- all rounds but the last, so that 1 minute to one round is left over
pub parts_split : (m t : ℕ) → 1 ≤ m → m ≡ (m - 1) / t * t + ((m - 1) % t + 1)
parts_split m t some = omega (arith, div-add-mod' (m - 1) t)

-- how many rounds there are fits
pub rounds_most : (m t : ℕ) → m ≤ 65536 → (m - 1) / t ≤ 65535
rounds_most m t h = le_trans (div-le_self (m - 1) t) (omega arith)
