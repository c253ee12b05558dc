-- Week tables (document 02, Req 11): which minutes belong together, and which are refused, as one table; and one proof that the definitions give
-- every value that it prints.
use Rattle.std.specs.Prelude.{ℕ, ◌≡◌, refl, List, [], ◌∷◌, Bool, true, false, ◌&&◌, eqb, Result, Ok, Err}
use Rattle.std.specs.List.{list_all}
use Rattle.numbers.specs.Numbers.{all, first}
use Rattle.spec.specs.Limits.{if_none}
use Rattle.schedule.specs.Schedules.{sum}
use Rattle.duty.specs.Weeks.{Table, day_right, day_open, is_open, open_before, days_right, table_number}
use Rattle.duty.specs.Minutes.{calendar_minute, calendar_of, duty_of}

-- what is said of a table: its number; that a duty minute and a calendar minute belong together; the number that a calendar minute gets
pub data Claim : Type 0 where
  table_gets : (number : ℕ) → Claim
  together : (duty calendar : ℕ) → Claim
  minute_gets : (calendar number : ℕ) → Claim

minute_is : Result ℕ ℕ → ℕ → Bool
minute_is (Ok m) minute = eqb m minute
minute_is (Err n) minute = false

refused_with : Result ℕ ℕ → ℕ → Bool
refused_with (Ok m) number = false
refused_with (Err n) number = eqb n number

claim_holds : Table → Claim → Bool
claim_holds table (table_gets n) = eqb (table_number table) n
claim_holds table (together d m) = minute_is (calendar_of table d) m && minute_is (duty_of table m) d
claim_holds table (minute_gets m n) = refused_with (duty_of table m) n

pub record Sample : Type 0 where
  pub table : Table
  pub claims : List Claim

pub day : (opens closes opens' closes' : ℕ) → List ℕ
day opens closes opens' closes' = opens ∷ closes ∷ opens' ∷ closes' ∷ []

pub rest : List ℕ
rest = day 0 0 0 0

-- five days alike, then Saturday and Sunday
pub week : List ℕ → List ℕ → List ℕ → List Claim → Sample
week weekday saturday sunday cs = record { table = weekday ∷ weekday ∷ weekday ∷ weekday ∷ weekday ∷ saturday ∷ sunday ∷ []; claims = cs }

pub samples : List Sample
samples =
    -- on duty from 6 to 12 and from 13 to 18 o'clock, on Saturdays from 8 to 12
    week (day 360 720 780 1_080) (day 480 720 0 0) rest (
    table_gets 0
    ∷ minute_gets 359 28
    ∷ together 0 360
    ∷ together 359 719
    ∷ minute_gets 720 28
    ∷ together 360 780
    ∷ together 660 1_800
    -- the last duty minute of a week, and the first of the next
    ∷ together 3_539 7_919
    ∷ minute_gets 7_920 28
    ∷ together 3_540 10_440 ∷ [])
    -- always open, on weekdays by windows that touch
    ∷ week (day 0 720 720 1_440) (day 0 1_440 0 0) (day 0 0 0 1_440) (together 0 0 ∷ together 1_441 1_441 ∷ [])
    -- one minute a week: Monday to Friday have none, and Sunday its last, as its second window alone
    ∷ week rest rest (day 0 0 1_439 1_440) (minute_gets 0 28 ∷ together 0 10_079 ∷ together 1 20_159 ∷ [])
    -- windows that overlap, that are turned, that are empty; 1,440 as opening, 1,441 as closing; no window at all. 27 comes before 28.
    ∷ week (day 360 720 719 1_080) rest rest (table_gets 27 ∷ minute_gets 0 27 ∷ minute_gets 360 27 ∷ [])
    ∷ week (day 780 1_080 360 720) rest rest (table_gets 27 ∷ [])
    ∷ week (day 720 360 780 1_080) rest rest (table_gets 27 ∷ [])
    ∷ week (day 360 360 780 1_080) rest rest (table_gets 27 ∷ [])
    ∷ week (day 360 720 1_440 1_440) rest rest (table_gets 27 ∷ [])
    ∷ week (day 360 1_441 0 0) rest rest (table_gets 27 ∷ [])
    ∷ week rest rest rest (table_gets 27 ∷ minute_gets 0 27 ∷ [])
    ∷ []

pub samples_hold : List Sample → Bool
samples_hold = list_all (λ x. list_all (claim_holds x.table) x.claims)

-- Every value of the table is what the definitions compute.
pub samples_hold_lem : samples_hold samples ≡ true
unfolding samples_hold samples week rest day claim_holds minute_is refused_with table_number days_right all day_right day_open is_open open_before sum first calendar_minute calendar_of duty_of if_none
samples_hold_lem = refl
