-- Open minutes counted. The count before a minute rises by one at each open minute and stays at a closed one, and rises by the same each week. So,
-- where a week has an open minute, one comes within a week of any minute, and the one that the search finds has as many before it as the
-- minute where the search began.
use Prim.Native.Nat.{ℕ, zero, suc, ◌+◌, ◌-◌, ◌%◌, ◌≤◌, ◌<◌}
use native.Mathlib.Omega.{arith}
use native.Mathlib.Nat.{add_assoc, add-zero, zero-add}
use native.Mathlib.Numerals.{add-one}
use mathlib.Core.Path.{◌≡◌, refl, ◌∙◌}
use mathlib.Core.Logic.{◌↔◌}
use mathlib.Core.Bool.{Bool, true, false, cond}
use Rattle.std.proofs.lemmas.Bool.Decides.{nat_tests}
use Rattle.numbers.specs.Numbers.{first}
use Rattle.schedule.specs.Schedules.{InRounds}
use Rattle.schedule.proofs.Sums.{sum_none, sum_more, sum_again, sum_whole}
use Rattle.duty.specs.Weeks.{Table, is_open, open_before}
use Rattle.duty.specs.Minutes.{calendar_minute}

module _ (table : Table) where
  pub before_none : open_before table 0 ≡ 0
  unfolding open_before
  before_none = sum_none (λ x. cond (is_open table x) 1 0)

  pub before_more : (m : ℕ) → open_before table (m + 1) ≡ open_before table m + cond (is_open table m) 1 0
  unfolding open_before
  before_more m = sum_more (λ x. cond (is_open table x) 1 0) m

  before_open : (m : ℕ) → is_open table m ≡ true → open_before table (m + 1) ≡ open_before table m + 1
  before_open m e = rw (before_more m, e)

  before_closed : (m : ℕ) → is_open table m ≡ false → open_before table (m + 1) ≡ open_before table m
  before_closed m e = rw (before_more m, e) (omega arith)

  before_step : (m : ℕ) → (open_before table m ≤ open_before table (m + 1)) × (open_before table (m + 1) ≤ open_before table m + 1)
  before_step m = let more = before_more m in (grind (arith, nat_tests), grind (arith, nat_tests))

  -- n minutes have at most n open ones
  pub before_some : (m n : ℕ) → (open_before table m ≤ open_before table (m + n)) × (open_before table (m + n) ≤ open_before table m + n)
  before_some m zero = rw add-zero (omega arith, omega arith)
  before_some m (suc n) =
      let k = before_some m n in
      let j = before_step (m + n) in
      rw (← add-one n, ← add_assoc m n 1) (omega arith, omega arith)

  pub before_mono : (m n : ℕ) → m ≤ n → open_before table m ≤ open_before table n
  before_mono m n h = let e : n ≡ m + (n - m) = omega arith in rw e (before_some m (n - m)).0

  pub before_most : (m : ℕ) → open_before table m ≤ m
  before_most m = let k = rw zero-add at (before_some 0 m).1 in omega (arith, before_none)

  -- of two minutes, the first of them open, the later has more before it
  pub before_rises : (m n : ℕ) → is_open table m ≡ true → m < n → open_before table m < open_before table n
  before_rises m n e h = omega (arith, before_open m e, before_mono (m + 1) n (omega arith))

  -- minutes at one place of their weeks are open together
  pub open_same : (m n : ℕ) → m % 10_080 ≡ n % 10_080 → is_open table m ≡ is_open table n
  unfolding is_open
  open_same m n e = rw e

  open_again : (m : ℕ) → is_open table (m + 10_080) ≡ is_open table m
  open_again m = open_same (m + 10_080) m (omega arith)

  before_again : (m : ℕ) → open_before table (m + 10_080) ≡ open_before table m + open_before table 10_080
  unfolding open_before
  before_again m = sum_again (λ x. cond (is_open table x) 1 0) 10_080 (λ i. rw (open_again i)) m

  pub before_weeks : InRounds 10_080 (open_before table)
  unfolding open_before
  before_weeks m = sum_whole (λ x. cond (is_open table x) 1 0) 10_080 (λ i. rw (open_again i)) m

  -- what the search over the n minutes from m finds
  record Found (n m r : ℕ) : Type 0 where
    same : open_before table r ≡ open_before table m
    found : open_before table m < open_before table (m + n) → is_open table r ≡ true

  first_found : (n m : ℕ) → Found n m (first (is_open table) n m)
  unfolding first
  first_found zero m = record { same = refl; found = λ h. absurd (let g = rw add-zero at h in omega arith) }
  first_found (suc n) m = pick (is_open table m) refl (first_found n (m + 1))
    where
      pick : (b : Bool) → is_open table m ≡ b → Found n (m + 1) (first (is_open table) n (m + 1)) → Found (suc n) m (elim b [ true ↦ m | false ↦ first (is_open table) n (m + 1) ])
      pick true e k = record { same = refl; found = λ h. e }
      pick false e k =
          let c = before_closed m e in
          let z : m + suc n ≡ m + 1 + n = omega arith in
          record {
            same = k.same ∙ c;
            found = λ h. k.found (let g = rw z at h in omega arith);
          }

  module _ (some : 0 < open_before table 10_080) where
    next_open : (m : ℕ) → is_open table (first (is_open table) 10_080 m) ≡ true
    next_open m = (first_found 10_080 m).found (omega (arith, before_again m, some))

    -- the calendar minute of duty minute d is open, and d open ones are before it
    pub calendar_open : (d : ℕ) → is_open table (calendar_minute table d) ≡ true
    unfolding calendar_minute
    calendar_open zero = next_open 0
    calendar_open (suc d) = next_open (calendar_minute table d + 1)

    pub calendar_before : (d : ℕ) → open_before table (calendar_minute table d) ≡ d
    unfolding calendar_minute
    calendar_before zero = (first_found 10_080 0).same ∙ before_none
    calendar_before (suc d) =
        (first_found 10_080 (calendar_minute table d + 1)).same ∙ rw (before_open (calendar_minute table d) (calendar_open d), calendar_before d) (add-one d)

    -- so there is no other
    pub calendar_is : (m : ℕ) → is_open table m ≡ true → calendar_minute table (open_before table m) ≡ m
    calendar_is m e =
        let c = calendar_minute table (open_before table m) in
        let k = calendar_before (open_before table m) in
        let earlier = before_rises c m (calendar_open (open_before table m)) in
        let later = before_rises m c e in
        grind arith

    -- the duty minutes before minute a are those with a number below its count
    pub calendar_iff : (a d : ℕ) → calendar_minute table d < a ↔ d < open_before table a
    calendar_iff a d =
        let e = calendar_before d in
        let before = before_rises (calendar_minute table d) a (calendar_open d) in
        let after = before_mono a (calendar_minute table d) in
        (λ h. grind arith, λ h. grind arith)

    -- n duty minutes take n calendar minutes or more, since those have at most as many open ones
    pub calendar_apart : (d e : ℕ) → d ≤ e → calendar_minute table d + (e - d) ≤ calendar_minute table e
    calendar_apart d e h =
        let x = calendar_minute table d in
        let y = calendar_minute table e in
        let p = calendar_before d in
        let q = calendar_before e in
        let before = before_rises y x (calendar_open e) in
        let after = (before_some x (y - x)).1 in
        grind arith

    pub calendar_least : (d : ℕ) → d ≤ calendar_minute table d
    calendar_least d = let e = calendar_before d in omega (arith, before_most (calendar_minute table d))
