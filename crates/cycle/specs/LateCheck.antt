-- Document 02, Req 09, the check of a cycle whose reports may arrive up to J minutes late: "So every gap from J less to J more than the
-- planned one must be allowed"; "The numbers 13, 15 and 16 have the meaning of before, over some choice of delays"; "Turned away: 26 when J
-- is above 1,440, after 24". The tests are of planned minutes; `late_numbers` of the demands' page says that with them each number has its
-- meaning over every choice of delays.
use Rattle.std.specs.Prelude.{ℕ, List, Bool, length, Result}
use Rattle.numbers.specs.Numbers.{all}
use Rattle.spec.specs.declared.Spec.{Spec}
use Rattle.spec.specs.File.{if_read}
use Rattle.lateness.specs.Lateness.{late_gap_allowed, late_supply, late_demand, if_late}
use Rattle.pairs.specs.declared.Pair.{Pair}
use Rattle.pairs.specs.Pairs.{count_in}
use Rattle.cycle.specs.Cycles.{pair_gap}
use Rattle.cycle.specs.Check.{sizes_allowed, supply_kept, demand_met, first_refusal}

-- not 13: of each pair "every gap from J less to J more than the planned one" is allowed
unfoldable pub late_gaps_allowed : Spec → ℕ → List Pair → Bool
late_gaps_allowed spec lateness ps = all (λ j. late_gap_allowed spec lateness (pair_gap ps j)) (length ps)

-- the first of 12 to 16 that applies, or 0
unfoldable pub late_cycle_number : Spec → ℕ → List Pair → ℕ
late_cycle_number spec lateness ps =
    first_refusal (count_in (length ps)) (late_gaps_allowed spec lateness ps) (sizes_allowed spec ps)
    (supply_kept (late_supply lateness spec.supply) ps)
    (demand_met (late_demand lateness spec.demand) ps)

-- 3, 4 and 24, then 26, then these
unfoldable pub late_number : Spec → ℕ → List Pair → ℕ
late_number spec lateness ps = if_late spec lateness (late_cycle_number spec lateness ps) (λ n. n)

-- the same given a specification's file: 1 to 4 and 24 first
unfoldable pub late_file_number : Result Spec ℕ → ℕ → List Pair → ℕ
late_file_number read lateness ps = if_read read (λ spec. late_number spec lateness ps) (λ n. n)
