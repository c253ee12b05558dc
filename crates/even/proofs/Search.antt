-- What `largest` gives: a number that passes, with none above it that does; and how a search from the top goes down to it.
use Prim.Native.Nat.{ℕ, zero, suc, ◌≤◌, ◌<◌}
use native.Mathlib.Omega.{arith}
use mathlib.Core.Path.{◌≡◌, refl, sym}
use mathlib.Core.Logic.{⊎_elim}
use mathlib.Core.Bool.{Bool, true, false, ◌&&◌, and-false}
use borrow.Author.Tests.{le-leb, lt-leb}
use Rattle.std.specs.Prelude.{Option, None, Some, MatchOption}
use Rattle.std.specs.declared.num.NonZeroU16.{NonZeroU16}
use Rattle.std.specs.Int.NonZero.{non_zero_u16_get}
use Rattle.spec.specs.declared.Spec.{Spec}
use Rattle.spec.specs.Limits.{between}
use Rattle.numbers.proofs.Cases.{lt_cases}
use Rattle.even.specs.Even.{fits, largest}
use Rattle.even.specs.Jump.{gap_number, next_gap}
use Rattle.even.specs.Search.{largest_in}
use Rattle.even.proofs.Jumps.{next_gap_less, next_gap_skips}

module _ (ok : ℕ → Bool) where
  pub record Largest (n x : ℕ) : Type 0 where
    pub passes : 0 < x → (ok x ≡ true) × (x ≤ n)
    pub above : (y : ℕ) → x < y → y ≤ n → ok y ≡ false

  pub largest_right : (n : ℕ) → Largest n (largest ok n)
  unfolding largest
  largest_right zero = record { passes = λ h. absurd (omega arith); above = λ y a b. absurd (omega arith) }
  largest_right (suc n) = top (ok (suc n)) refl (largest_right n)
    where
      top : (t : Bool) → ok (suc n) ≡ t → Largest n (largest ok n) → Largest (suc n) (elim t [ true ↦ suc n | false ↦ largest ok n ])
      top true e ih = record { passes = λ h. (e, omega arith); above = λ y a b. absurd (omega arith) }
      top false e ih = record {
        passes = λ h. let r = ih.passes h in (r.0, omega arith);
        above = λ y a b. ⊎_elim (λ q. ih.above y a (omega arith)) (λ q. let z : y ≡ suc n = omega arith in rw z e) (lt_cases y (suc n));
      }

  -- there is one only
  pub largest_is : (n x : ℕ) → Largest n x → largest ok n ≡ x
  largest_is n x h =
      let y = largest ok n in
      let r = largest_right n in
      ⊎_elim
      (λ l. let p = (r.passes (omega arith)).0 in let q = h.above y l (r.passes (omega arith)).1 in cc)
      (λ l.
      ⊎_elim
      (λ m. let p = (h.passes (omega arith)).0 in let q = r.above x m (h.passes (omega arith)).1 in cc)
      (λ m. omega arith)
      (lt_cases y x))
      (lt_cases x y)

  largest_top : (n : ℕ) → 0 < n → ok n ≡ true → largest ok n ≡ n
  unfolding largest
  largest_top zero h e = absurd (omega arith)
  largest_top (suc n) h e = rw (largest, e)

  -- numbers that fail may be passed over
  largest_skip : (r s : ℕ) → r ≤ s → ((t : ℕ) → r < t → t ≤ s → ok t ≡ false) → largest ok s ≡ largest ok r
  unfolding largest
  largest_skip r zero h fail = let z : r ≡ 0 = omega arith in rw z
  largest_skip r (suc s) h fail =
      ⊎_elim
      (λ q. rw (largest, fail (suc s) q (omega arith)) (largest_skip r s (omega arith) (λ t a b. fail t a (omega arith))))
      (λ q. let z : r ≡ suc s = omega arith in rw z)
      (lt_cases r (suc s))

-- the gap of a number
pub new_number : (x : Option NonZeroU16) (n : ℕ) → MatchOption x (n ≡ 0) (λ s. non_zero_u16_get s ≡ n) → gap_number x ≡ n
new_number None n e = sym e
new_number (Some s) n e = e

-- The search in the range lo to hi: what it has yet to find where s is the gap to try next
unfoldable pub left_from : (ℕ → Bool) → ℕ → ℕ → ℕ → ℕ
left_from ok lo hi s = largest (λ t. between lo hi t && ok t) s

module _ (ok : ℕ → Bool) (lo hi : ℕ) where
  pub search_starts : left_from ok lo hi hi ≡ largest_in ok lo hi
  unfolding left_from largest_in
  search_starts = refl

  pub search_hits : (s : ℕ) → 0 < s → lo ≤ s → s ≤ hi → ok s ≡ true → left_from ok lo hi s ≡ s
  unfolding left_from
  search_hits s pos a b e =
      largest_top (λ t. between lo hi t && ok t) s pos (rw (le-leb lo s a, le-leb s hi b, e))

  -- down to the next one, where all from s on fail
  pub search_skips : (r s : ℕ) → r ≤ s → ((t : ℕ) → r < t → t ≤ s → ok t ≡ false) → left_from ok lo hi s ≡ left_from ok lo hi r
  unfolding left_from
  search_skips r s under fail = largest_skip (λ t. between lo hi t && ok t) r s under (λ t p q. rw (fail t p q, and-false))

  pub search_done : left_from ok lo hi 0 ≡ 0
  unfolding left_from largest
  search_done = refl

  pub search_ends : (s : ℕ) → s < lo → left_from ok lo hi s ≡ 0
  unfolding left_from largest
  search_ends s h = largest_skip (λ t. between lo hi t && ok t) 0 s (omega arith) (λ t p q. rw (lt-leb lo t (omega arith)))

-- where the gap s doesn't fit, those that are jumped over don't either
pub search_jumps : (spec : Spec) (lo hi s : ℕ) → 0 < s → fits spec s ≡ false → left_from (fits spec) lo hi s ≡ left_from (fits spec) lo hi (next_gap spec.demand s)
search_jumps spec lo hi s pos e =
    search_skips (fits spec) lo hi (next_gap spec.demand s) s
    (omega (arith, next_gap_less spec.demand s pos))
    (λ t p q. next_gap_skips spec s t pos p q e)

-- what the search goes by
pub ruleset searching = (new_number, next_gap_less, search_starts, search_hits, search_jumps, search_ends, search_done)
