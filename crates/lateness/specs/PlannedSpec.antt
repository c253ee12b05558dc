-- Document 02, Req 09, as one specification: what planned minutes must meet, so that the given one is met "however each report is delayed".
-- `late_planned` of the demands' page says so of every schedule, and `late_gap_near` that it allows just the gaps g of which all from g - J
-- to g + J are allowed.
use Rattle.std.specs.Prelude.{ℕ, ◌+◌, ◌-◌, cond, eqb, Option, None, Some, Result, Ok, Err}
use Rattle.spec.specs.declared.Range.{Range}
use Rattle.spec.specs.declared.Spec.{Spec}
use Rattle.spec.specs.Limits.{range_of}
use Rattle.lateness.specs.Lateness.{late_supply, late_demand, if_late}

-- where the first range ends once ranges that touch are joined
unfoldable pub joined_end : ℕ → Option Range → ℕ
joined_end smax None = smax
joined_end smax (Some x) = cond (eqb x.min (smax + 1)) x.max smax

-- and the second range, where it is not joined to the first
unfoldable pub second_apart : ℕ → Option Range → Option Range
second_apart smax None = None
second_apart smax (Some x) = cond (eqb x.min (smax + 1)) None (Some x)

-- a range without its first J and its last J numbers
unfoldable pub shortened : ℕ → Option Range → Option Range
shortened lateness None = None
shortened lateness (Some x) = Some (range_of (x.min + lateness) (x.max - lateness))

unfoldable pub planned_spec : Spec → ℕ → Spec
planned_spec spec lateness = record {
  dmin = spec.dmin;
  dmax = spec.dmax;
  smin = spec.smin + lateness;
  smax = joined_end spec.smax spec.second - lateness;
  supply = late_supply lateness spec.supply;
  demand = late_demand lateness spec.demand;
  duration = spec.duration;
  second = shortened lateness (second_apart spec.smax spec.second);
}

-- that specification, after 3, 4, 24 and 26
unfoldable pub planned_for : Spec → ℕ → Result Spec ℕ
planned_for spec lateness = if_late spec lateness (Ok (planned_spec spec lateness)) Err
