-- Document 01, "Specification file": what its bytes stand for; "Reading a specification": refusals 1 to 4, in that order. Document 02,
-- Req 06: "Bit 5 of the specification's map now brings a second gap range, after the duration"; refusal 24.
use Rattle.std.specs.Prelude.{ℕ, ◌+◌, ◌*◌, ◌/◌, ◌%◌, ◌^◌, Bool, cond, ◌&&◌, List, length, get_or, ltb, eqb, Option, None, Some, Result, Ok, Err}
use Rattle.spec.specs.declared.Spec.{Spec}
use Rattle.spec.specs.Limits.{rate_of, range_of, if_accepted}

-- a 2-byte number at a place, "high byte first"
abbrev pub word : List ℕ → ℕ → ℕ
word b i = get_or b i 0 * 256 + get_or b (i + 1) 0

-- bit k of the map byte m, 0 or 1: "bit 0 (the lowest) size, 1 gap, 2 supply, 3 demand, 4 duration", and 5 the second gap range
abbrev pub bit : ℕ → ℕ → ℕ
bit m k = m / 2 ^ k % 2

-- bits 0 and 1 stand, and neither of bits 6 and 7: "Bit 5 no longer gives 1"
abbrev pub map_good : ℕ → Bool
map_good m = eqb (m % 4) 3 && ltb m 64

-- "Then, in that order, only the pairs whose bit stands": sizes at 1, gaps at 5, supply at 9 where it stands, then the others
abbrev pub demand_at : ℕ → ℕ
demand_at m = 9 + 4 * bit m 2

abbrev pub duration_at : ℕ → ℕ
duration_at m = demand_at m + 4 * bit m 3

abbrev pub second_at : ℕ → ℕ
second_at m = duration_at m + 4 * bit m 4

abbrev pub file_length : ℕ → ℕ
file_length m = second_at m + 4 * bit m 5

-- "two 2-byte numbers each": what the pair at place i makes where its bit stands
abbrev pub if_stands : {A : Type 0} → ℕ → (ℕ → ℕ → A) → List ℕ → ℕ → Option A
if_stands stands present b i = cond (eqb stands 1) (Some (present (word b i) (word b (i + 2)))) None

abbrev pub spec_at : ℕ → List ℕ → Spec
spec_at m b = record {
  dmin = word b 1;
  dmax = word b 3;
  smin = word b 5;
  smax = word b 7;
  supply = if_stands (bit m 2) rate_of b 9;
  demand = if_stands (bit m 3) rate_of b (demand_at m);
  duration = if_stands (bit m 4) range_of b (duration_at m);
  second = if_stands (bit m 5) range_of b (second_at m);
}

-- the specification, or its refusal 3, 4 or 24
abbrev pub accept : Spec → Result Spec ℕ
accept s = if_accepted s (Ok s) Err

-- "1 no first byte, or bit 5 to 7 stands, or bit 0 or 1 doesn't", of which document 02 takes out bit 5; "2 the length is not what the
-- map calls for"; then 3, 4 and 24
unfoldable pub read_spec : List ℕ → Result Spec ℕ
read_spec b =
    cond (ltb 0 (length b) && map_good (get_or b 0 0))
    (cond (eqb (length b) (file_length (get_or b 0 0))) (accept (spec_at (get_or b 0 0) b)) (Err 2))
    (Err 1)

-- "Later steps go on only with an accepted specification", else they tell the number of its refusal
abbrev pub if_read : {A : Type 0} → Result Spec ℕ → (Spec → A) → (ℕ → A) → A
if_read (Ok s) goOn tell = goOn s
if_read (Err n) goOn tell = tell n
