-- Document 02, Req 09: what planned minutes must meet, so that delayed ones obey the four rules. "So every gap from J less to J more than the
-- planned one must be allowed"; "Turned away: 26 when J is above 1,440, after 24".
use Rattle.std.specs.Prelude.{ℕ, ◌+◌, ◌-◌, ◌*◌, Bool, cond, leb, Option, None, Some}
use Rattle.numbers.specs.Numbers.{all}
use Rattle.spec.specs.declared.Rate.{Rate}
use Rattle.spec.specs.declared.Spec.{Spec}
use Rattle.spec.specs.Limits.{rate_of, if_none, if_accepted, gap_allowed}

-- the gaps g - J to g + J are all allowed; where g is at most J the first of them counts as 0, which is below every range
unfoldable pub late_gap_allowed : Spec → ℕ → ℕ → Bool
late_gap_allowed spec lateness g = all (λ x. gap_allowed spec (g + x - lateness)) (2 * lateness + 1)

-- the fullest R minutes hold what R + J planned minutes hold: the first of their reports J late, the last on time
unfoldable pub late_supply : ℕ → Option Rate → Option Rate
late_supply lateness None = None
late_supply lateness (Some x) = Some (rate_of x.records (x.minutes + lateness))

-- The thinnest P minutes hold what P - J planned minutes hold: those reports that can leave at their end are J late. Where P is at most J
-- that is no minute, and nothing.
unfoldable pub late_demand : ℕ → Option Rate → Option Rate
late_demand lateness None = None
late_demand lateness (Some x) = Some (rate_of x.records (x.minutes - lateness))

-- 3, 4 and 24, then 26: with these begins an operation that takes a lateness
unfoldable pub lateness_number : Spec → ℕ → ℕ
lateness_number spec lateness = if_accepted spec (cond (leb lateness 1_440) 0 26) (λ n. n)

abbrev pub if_late : {A : Type 0} → Spec → ℕ → A → (ℕ → A) → A
if_late spec lateness = if_none (lateness_number spec lateness)
