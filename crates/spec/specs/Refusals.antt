-- Documents 01 and 02, "What each operation turns down, in order": "A refusal yields its number, the first that applies". The definitions of
-- every crate give the numbers; the code names its refusals, and here is which name has which number. 30, of the box plan, is ours
-- (docs/DECISIONS.md).
use Rattle.std.specs.Prelude.{ℕ, Result, Ok, Err}
use Rattle.spec.specs.declared.refusal.Refusal.{Refusal}
use Rattle.spec.specs.declared.refusal.Refusal.TheVariants.{Map, Length, Limits, Order, Ranges, TwoRanges, RateAbsent, NoSchedule, NotPassed, NoEvenPlan, NotProper, Count, Gap, Size, TooFull, TooThin, TooLate, PairMap, Cut, NotLeftOut, NoRoom, BytesOver, NoPlace, Backwards, WeekTable, Closed, SameDay, NoBoxPlan}

-- each number is given to one name. 7, which "carries the first condition that fails", is the crate `consistency`'s; 8 is no longer given
abbrev pub number_of : Refusal → ℕ
number_of Map = 1
number_of Length = 2
number_of Limits = 3
number_of Order = 4
number_of RateAbsent = 5
number_of NoSchedule = 6
number_of NotPassed = 9
number_of NoEvenPlan = 10
number_of NotProper = 11
number_of Count = 12
number_of Gap = 13
number_of Size = 14
number_of TooFull = 15
number_of TooThin = 16
number_of PairMap = 17
number_of Cut = 18
number_of NotLeftOut = 19
number_of NoRoom = 20
number_of BytesOver = 21
number_of NoPlace = 22
number_of Backwards = 23
number_of Ranges = 24
number_of TwoRanges = 25
number_of TooLate = 26
number_of WeekTable = 27
number_of Closed = 28
number_of SameDay = 29
number_of NoBoxPlan = 30

-- an answer of the code with its refusal's number in place of the name, as the definitions give it
abbrev pub numbered : {A : Type 0} → Result A Refusal → Result A ℕ
numbered (Ok a) = Ok a
numbered (Err r) = Err (number_of r)

-- 0, or the number of the refusal
abbrev pub answer_number : {A : Type 0} → Result A Refusal → ℕ
answer_number (Ok a) = 0
answer_number (Err r) = number_of r
