-- Document 01, "Checking a cycle: 12 count 0 or above 512; 13 some gap out of range; 14 some size; 15 some R minutes too full; 16 some
-- P minutes too thin", after 3, 4 and 24, with which every operation on a specification begins. "A refusal yields its number, the first
-- that applies"; "a cycle is passed when its check gives no refusal number".
use Rattle.std.specs.Prelude.{ℕ, List, Bool, true, cond, leb, length, Option, None, Some, Result}
use Rattle.numbers.specs.Numbers.{all}
use Rattle.spec.specs.declared.Rate.{Rate}
use Rattle.spec.specs.declared.Spec.{Spec}
use Rattle.spec.specs.File.{if_read}
use Rattle.spec.specs.Limits.{if_accepted, size_allowed, gap_allowed}
use Rattle.pairs.specs.declared.Pair.{Pair}
use Rattle.pairs.specs.Pairs.{count_in}
use Rattle.schedule.specs.Schedules.{stretch}
use Rattle.cycle.specs.Cycles.{pair_gap, pair_size, cycle_run, round}

-- not "13 some gap out of range"
unfoldable pub gaps_allowed : Spec → List Pair → Bool
gaps_allowed spec ps = all (λ j. gap_allowed spec (pair_gap ps j)) (length ps)

-- not "14 some size"
unfoldable pub sizes_allowed : Spec → List Pair → Bool
sizes_allowed spec ps = all (λ j. size_allowed spec (pair_size ps j)) (length ps)

-- "each stretch of R minutes holds at most B records; each of P minutes holds at least L", over the endless repetition. Stretches
-- start at every minute of one round, and end wherever they end: the run repeats with the round, so those are all.
unfoldable pub supply_kept : Option Rate → List Pair → Bool
supply_kept None ps = true
supply_kept (Some x) ps = all (λ a. leb (stretch (cycle_run ps) a x.minutes) x.records) (round ps)

unfoldable pub demand_met : Option Rate → List Pair → Bool
demand_met None ps = true
demand_met (Some x) ps = all (λ a. leb x.records (stretch (cycle_run ps) a x.minutes)) (round ps)

-- the first of 12 to 16 that applies, or 0: by whether the count, the gaps, the sizes, the supply rate and the demand rate are right
unfoldable pub first_refusal : (count gaps sizes supply demand : Bool) → ℕ
first_refusal count gaps sizes supply demand = cond count (cond gaps (cond sizes (cond supply (cond demand 0 16) 15) 14) 13) 12

-- 12, 13 or 14 alone
unfoldable pub shape_number : Spec → List Pair → ℕ
shape_number spec ps = first_refusal (count_in (length ps)) (gaps_allowed spec ps) (sizes_allowed spec ps) true true

unfoldable pub cycle_number : Spec → List Pair → ℕ
cycle_number spec ps =
    first_refusal (count_in (length ps)) (gaps_allowed spec ps) (sizes_allowed spec ps) (supply_kept spec.supply ps) (demand_met spec.demand ps)

-- "Every operation given a specification as numbers begins with 3 and 4", then 24
unfoldable pub check_number : Spec → List Pair → ℕ
check_number spec ps = if_accepted spec (cycle_number spec ps) (λ n. n)

-- the same given a specification's file: 1 to 4 and 24 first
unfoldable pub check_file_number : Result Spec ℕ → List Pair → ℕ
check_file_number read ps = if_read read (λ spec. check_number spec ps) (λ n. n)
