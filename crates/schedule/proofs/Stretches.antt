-- A stretch holds the sizes of a block of neighbouring reports: from report lo up to, not including, report hi, where lo is the
-- number of reports before its first minute and hi that of those before its end.
use Prim.Native.Nat.{ℕ, zero, suc, ◌+◌, ◌-◌, ◌≤◌, ◌<◌, max}
use native.Mathlib.Omega.{arith}
use native.Mathlib.Nat.{zero-add}
use native.Mathlib.Numerals.{add-one}
use mathlib.Core.Path.{◌≡◌, refl}
use mathlib.Core.Logic.{◌↔◌, ⊎_elim}
use mathlib.Core.Bool.{true, false, cond}
use lib.Dec.{leb, ltb}
use borrow.Author.Tests.{lt-ltb, le-ltb, le-leb, lt-leb}
use Rattle.numbers.proofs.Cases.{lt_cases}
use Rattle.schedule.specs.Schedules.{Schedule, sum, minute, held_from, stretch}
use Rattle.schedule.proofs.Sums.{sum_more, block, block_none, block_first}

module _ (s : Schedule) (a e : ℕ) where
  pub held_from_none : (i t : ℕ) → held_from s a e 0 i t ≡ 0
  unfolding held_from
  held_from_none i t = refl

  -- at the end the rest holds nothing
  pub held_from_past : (n i t : ℕ) → ltb t e ≡ false → held_from s a e n i t ≡ 0
  unfolding held_from
  held_from_past zero i t h = refl
  held_from_past (suc n) i t h = rw (h, held_from)

  pub held_from_more : (n i t : ℕ) → ltb t e ≡ true → held_from s a e (n + 1) i t ≡ cond (leb a t) (s.size i) 0 + held_from s a e n (i + 1) (t + s.gap i)
  unfolding held_from
  held_from_more n i t h = rw (add-one n, h, held_from)

-- Where lo is the number of reports before minute a, and hi that of those before e.
module _ (s : Schedule) (a e lo hi : ℕ) (before : (i : ℕ) → minute s i < a ↔ i < lo) (until : (i : ℕ) → minute s i < e ↔ i < hi) where
  -- what is left from report i on
  rest : ℕ → ℕ
  rest i = block s.size (max i lo) (hi - max i lo)

  -- report i counts, or comes before the stretch
  rest_first : (i : ℕ) → i < hi → cond (leb a (minute s i)) (s.size i) 0 + rest (i + 1) ≡ rest i
  unfolding rest
  rest_first i q = ⊎_elim early counted (lt_cases (minute s i) a)
    where
      early : minute s i < a → cond (leb a (minute s i)) (s.size i) 0 + rest (i + 1) ≡ rest i
      early g =
          let r : i < lo = (before i).0 g in
          let x : max i lo ≡ lo = omega arith in
          let y : max (i + 1) lo ≡ lo = omega arith in
          rw (lt-leb _ _ g, x, y, zero-add)

      counted : a ≤ minute s i → cond (leb a (minute s i)) (s.size i) 0 + rest (i + 1) ≡ rest i
      counted g =
          let r : ¬ (i < lo) = λ q. let r : minute s i < a = (before i).1 q in omega arith in
          let x : max i lo ≡ i = omega arith in
          let y : max (i + 1) lo ≡ i + 1 = omega arith in
          let z : hi - i ≡ 1 + (hi - (i + 1)) = omega arith in
          rw (le-leb _ _ g, x, y, z, block_first s.size i (hi - (i + 1)))

  from_rest : (n i : ℕ) → hi ≤ i + n → held_from s a e n i (minute s i) ≡ rest i
  unfolding rest minute
  from_rest zero i h =
      let z : hi - max i lo ≡ 0 = omega arith in
      rw (z, held_from_none s a e i (minute s i), block_none s.size (max i lo))
  from_rest (suc n) i h =
      let ih : held_from s a e n (i + 1) (minute s (i + 1)) ≡ rest (i + 1) = from_rest n (i + 1) (omega arith) in
      ⊎_elim
      (λ g.
      let q : i < hi = (until i).0 g in
      rw (← add-one n, held_from_more s a e n i (minute s i) (lt-ltb _ _ g), ← sum_more s.gap i, ih) (rest_first i q))
      (λ g.
      let p : ¬ (i < hi) = λ q. let r : minute s i < e = (until i).1 q in omega arith in
      let z : hi - max i lo ≡ 0 = omega arith in
      rw (z, held_from_past s a e (suc n) i (minute s i) (le-ltb (minute s i) e g), block_none s.size (max i lo)))
      (lt_cases (minute s i) e)

pub stretch_block : (s : Schedule) (a w lo hi : ℕ) → ((i : ℕ) → minute s i < a ↔ i < lo) → ((i : ℕ) → minute s i < a + w ↔ i < hi)
    → hi ≤ a + w → stretch s a w ≡ block s.size lo (hi - lo)
unfolding stretch rest minute sum
stretch_block s a w lo hi before until h =
    let z : max 0 lo ≡ lo = omega arith in
    rw z at (from_rest s a (a + w) lo hi before until (a + w) 0 (omega arith))
