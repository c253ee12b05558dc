-- A refusal's number is never 0, and no two refusals have the same number: so what is said of the number is said of the refusal.
use Prim.Native.Nat.{ℕ, ◌≤◌}
use native.Mathlib.Omega.{arith}
use mathlib.Core.Path.{◌≡◌, refl, sym, ◌∙◌, ap}
use mathlib.Core.Bool.{cond}
use lib.Dec.{eqb}
use Rattle.std.specs.Prelude.{Result, Err}
use Rattle.spec.specs.declared.refusal.Refusal.{Refusal}
use Rattle.spec.specs.declared.refusal.Refusal.TheVariants.{Map, Length, Limits, Order, Ranges, TwoRanges, RateAbsent, NoSchedule, NotPassed, NoEvenPlan, NotProper, Count, Gap, Size, TooFull, TooThin, TooLate, PairMap, Cut, NotLeftOut, NoRoom, BytesOver, NoPlace, Backwards, WeekTable, Closed, SameDay, NoBoxPlan}
use borrow.Author.Tests.{ne_eqb}
use Rattle.spec.specs.Limits.{if_none}
use Rattle.spec.specs.Refusals.{number_of, numbered, answer_number}

pub number_of_some : (r : Refusal) → 1 ≤ number_of r
number_of_some Map = omega arith
number_of_some Length = omega arith
number_of_some Limits = omega arith
number_of_some Order = omega arith
number_of_some Ranges = omega arith
number_of_some TwoRanges = omega arith
number_of_some RateAbsent = omega arith
number_of_some NoSchedule = omega arith
number_of_some NotPassed = omega arith
number_of_some NoEvenPlan = omega arith
number_of_some NotProper = omega arith
number_of_some Count = omega arith
number_of_some Gap = omega arith
number_of_some Size = omega arith
number_of_some TooFull = omega arith
number_of_some TooThin = omega arith
number_of_some TooLate = omega arith
number_of_some PairMap = omega arith
number_of_some Cut = omega arith
number_of_some NotLeftOut = omega arith
number_of_some NoRoom = omega arith
number_of_some BytesOver = omega arith
number_of_some NoPlace = omega arith
number_of_some Backwards = omega arith
number_of_some WeekTable = omega arith
number_of_some Closed = omega arith
number_of_some SameDay = omega arith
number_of_some NoBoxPlan = omega arith

-- so an answer whose number is that of a refusal is no 0
pub refused_some : (r : Refusal) (n : ℕ) → number_of r ≡ n → ¬ (n ≡ 0)
refused_some r n e z = omega (arith, number_of_some r)

-- The name of a number, and so no two names have the same one.
abbrev name_of : ℕ → Refusal
name_of n =
    cond (eqb n 1) Map
    (cond (eqb n 2) Length
    (cond (eqb n 3) Limits
    (cond (eqb n 4) Order
    (cond (eqb n 5) RateAbsent
    (cond (eqb n 6) NoSchedule
    (cond (eqb n 9) NotPassed
    (cond (eqb n 10) NoEvenPlan
    (cond (eqb n 11) NotProper
    (cond (eqb n 12) Count
    (cond (eqb n 13) Gap
    (cond (eqb n 14) Size
    (cond (eqb n 15) TooFull
    (cond (eqb n 16) TooThin
    (cond (eqb n 17) PairMap
    (cond (eqb n 18) Cut
    (cond (eqb n 19) NotLeftOut
    (cond (eqb n 20) NoRoom
    (cond (eqb n 21) BytesOver
    (cond (eqb n 22) NoPlace
    (cond (eqb n 23) Backwards
    (cond (eqb n 24) Ranges
    (cond (eqb n 25) TwoRanges
    (cond (eqb n 26) TooLate
    (cond (eqb n 27) WeekTable
    (cond (eqb n 28) Closed
    (cond (eqb n 29) SameDay
    (NoBoxPlan)))))))))))))))))))))))))))

name_back : (r : Refusal) → name_of (number_of r) ≡ r
name_back Map = refl
name_back Length = refl
name_back Limits = refl
name_back Order = refl
name_back RateAbsent = refl
name_back NoSchedule = refl
name_back NotPassed = refl
name_back NoEvenPlan = refl
name_back NotProper = refl
name_back Count = refl
name_back Gap = refl
name_back Size = refl
name_back TooFull = refl
name_back TooThin = refl
name_back PairMap = refl
name_back Cut = refl
name_back NotLeftOut = refl
name_back NoRoom = refl
name_back BytesOver = refl
name_back NoPlace = refl
name_back Backwards = refl
name_back Ranges = refl
name_back TwoRanges = refl
name_back TooLate = refl
name_back WeekTable = refl
name_back Closed = refl
name_back SameDay = refl
name_back NoBoxPlan = refl

pub number_of_apart : (a b : Refusal) → number_of a ≡ number_of b → a ≡ b
number_of_apart a b e = sym (name_back a) ∙ ap name_of e ∙ name_back b

-- `?` hands on the refusal that a check gave: an operation that begins with that check tells its number. The first law is of an operation that
-- yields something, the second of one that is a check itself; `goes_on` of GoingOn.antt is for a check that gives none.
module _ {B : Type 0} (n : ℕ) (e : Refusal) (x : Result B Refusal) where
  pub handed_on : (goOn : Result B ℕ) → number_of e ≡ n → x ≡ Err e → numbered x ≡ if_none n goOn Err
  unfolding if_none
  handed_on goOn told is = rw (is, ne_eqb n 0 (refused_some e n told), told)

  pub handed_number : (goOn : ℕ) → number_of e ≡ n → x ≡ Err e → answer_number x ≡ if_none n goOn (λ m. m)
  unfolding if_none
  handed_number goOn told is = rw (is, ne_eqb n 0 (refused_some e n told), told)
