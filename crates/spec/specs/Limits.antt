-- Document 01, "The specification": the limits of its values, and the order of each pair of bounds; "What each operation
-- turns down": refusals 3 and 4, with which every operation on a specification begins. Document 02, Req 06: a second range of gaps, and
-- refusal 24 after them. The numbers of a pair that is absent are not looked at.
use Rattle.std.specs.Prelude.{ℕ, ◌≡◌, Bool, true, false, cond, ◌&&◌, ◌||◌, leb, ltb, eqb, Option, None, Some}
use Rattle.spec.specs.declared.Rate.{Rate}
use Rattle.spec.specs.declared.Range.{Range}
use Rattle.spec.specs.declared.Spec.{Spec}

-- a rate and a range by their numbers: so many records in so many minutes, and from lo to hi
abbrev pub rate_of : ℕ → ℕ → Rate
rate_of records minutes = record { records = records; minutes = minutes }

abbrev pub range_of : ℕ → ℕ → Range
range_of lo hi = record { min = lo; max = hi }

-- lo ≤ x ≤ hi, as a test
abbrev pub between : ℕ → ℕ → ℕ → Bool
between lo hi x = leb lo x && leb x hi

-- both bounds of a range are 1 to top
abbrev pub bounds_limits : ℕ → ℕ → ℕ → Bool
bounds_limits top lo hi = between 1 top lo && between 1 top hi

-- a range that may be absent: its bounds, that the lower is not above the upper, and that it starts above a number
unfoldable pub range_limits : ℕ → Option Range → Bool
range_limits top None = true
range_limits top (Some x) = bounds_limits top x.min x.max

unfoldable pub range_order : Option Range → Bool
range_order None = true
range_order (Some x) = leb x.min x.max

unfoldable pub starts_above : Option Range → ℕ → Bool
starts_above None top = true
starts_above (Some x) top = ltb top x.min

-- which numbers it has: none where it is absent
unfoldable pub in_range : Option Range → ℕ → Bool
in_range None n = false
in_range (Some x) n = between x.min x.max n

-- "budget B, 1 to 20,000 records; R, 1 to 20,160 minutes", and the same of L and P
unfoldable pub rate_limits : Option Rate → Bool
rate_limits None = true
rate_limits (Some x) = between 1 20_000 x.records && between 1 20_160 x.minutes

-- "dmin to dmax, each 1 to 1,000 records", "smin to smax, each 1 to 20,160 minutes"; "Tmin and Tmax, each 1 to 60,000 minutes"; of the
-- second range of gaps "limits are those of the first"
unfoldable pub limits : Spec → Bool
limits s =
    bounds_limits 1_000 s.dmin s.dmax
    && bounds_limits 20_160 s.smin s.smax
    && rate_limits s.supply
    && rate_limits s.demand
    && range_limits 60_000 s.duration
    && range_limits 20_160 s.second

-- no "lower bound above its upper (size, gap, duration)", nor that of the second range: "3 and 4 cover the new pair"
unfoldable pub order : Spec → Bool
order s = leb s.dmin s.dmax && leb s.smin s.smax && range_order s.duration && range_order s.second

-- "3 a value out of its limits; 4 a lower bound above its upper"; "24 when the second range doesn't start above smax, after 4"; 0 where
-- an operation goes on
unfoldable pub first_number : (limits order apart : Bool) → ℕ
first_number limits order apart = cond limits (cond order (cond apart 0 24) 4) 3

unfoldable pub spec_number : Spec → ℕ
spec_number s = first_number (limits s) (order s) (starts_above s.second s.smax)

-- "an accepted specification, which is one that gets none of 1 to 4"; it "gets no 24 either"
abbrev pub IsAccepted : Spec → Type 0
IsAccepted s = spec_number s ≡ 0

-- an operation goes on where it has no number to tell, else it tells that number
unfoldable pub if_none : {A : Type 0} → ℕ → A → (ℕ → A) → A
if_none n goOn tell = cond (eqb n 0) goOn (tell n)

-- "Every operation given a specification as numbers begins with 3 and 4", then 24
abbrev pub if_accepted : {A : Type 0} → Spec → A → (ℕ → A) → A
if_accepted s = if_none (spec_number s)

-- "each size and each gap is in range": whether the specification allows this size, this gap. "A gap is allowed when it is in either."
unfoldable pub size_allowed : Spec → ℕ → Bool
size_allowed s d = between s.dmin s.dmax d

unfoldable pub gap_allowed : Spec → ℕ → Bool
gap_allowed s g = between s.smin s.smax g || in_range s.second g

-- no gap above this is allowed: the upper bound of the second range where there is one, else smax
unfoldable pub top_of : Option Range → ℕ → ℕ
top_of None smax = smax
top_of (Some x) smax = x.max

abbrev pub gap_top : Spec → ℕ
gap_top s = top_of s.second s.smax
