-- The choice between two files. Of any two, one of three things holds: what makes the first be told, the second, or a number; and each is
-- answered so. So an answer says which of them held. Assumes nothing.
use mathlib.Core.Path.{◌≡◌, refl, sym, ap, ◌∙◌}
use Prim.Native.Nat.{ℕ, ◌≤◌, ◌<◌}
use native.Mathlib.Omega.{arith}
use mathlib.Core.Logic.{◌⊎◌, inl, inr, ◌↔◌}
use mathlib.Core.Bool.{Bool, true, false}
use mathlib.Core.List.{List}
use lib.ListN.{length}
use borrow.Author.Tests.{lt-ltb, le-ltb}
use Rattle.std.specs.Prelude.{Ok, Err, bytes_eq}
use Rattle.std.proofs.lemmas.Slice.Eq.{bytes_eq-Decides}
use Rattle.numbers.proofs.Cases.{lt_cases}
use Rattle.numbers.proofs.Tests.{not_both}
use Rattle.dated.specs.declared.InForce.TheVariants.{First, Second}
use Rattle.dated.specs.InForce.{issue_day, read_dated, in_force, Readable}
use Rattle.dated.proofs.Readings.{has_day, day_counts, no_day_counts, not_readable, either}

-- ---- whether two files are equal

differ_by : (a b : List ℕ) → ¬ (a ≡ b) → (t : Bool) → bytes_eq a b ≡ t → t ≡ false
differ_by a b apart true e = absurd (apart ((bytes_eq-Decides a b).0 e))
differ_by a b apart false e = refl

same_by : (a b : List ℕ) (t : Bool) → bytes_eq a b ≡ t → (a ≡ b) ⊎ ¬ (a ≡ b)
same_by a b true e = inl ((bytes_eq-Decides a b).0 e)
same_by a b false e = inr (λ z. not_both (bytes_eq a b) ((bytes_eq-Decides a b).1 z) e)

pub same_or_not : (a b : List ℕ) → (a ≡ b) ⊎ ¬ (a ≡ b)
same_or_not a b = same_by a b (bytes_eq a b) refl

module _ (a b : List ℕ) where
  -- ---- what makes each answer be given

  abbrev pub TellsFirst : Type 0
  TellsFirst = Readable a × (¬ (Readable b) ⊎ ((issue_day b < issue_day a) ⊎ (a ≡ b)))

  abbrev pub TellsSecond : Type 0
  TellsSecond = Readable b × (¬ (Readable a) ⊎ (issue_day a < issue_day b))

  abbrev pub TellsNumber : ℕ → Type 0
  TellsNumber n = ((read_dated a ≡ Err n) × ¬ (Readable b)) ⊎ ((n ≡ 29) × Readable a × Readable b × (issue_day a ≡ issue_day b) × ¬ (a ≡ b))

  -- ---- what is answered where one can be read, none, or both

  only_first : Readable a → {m : ℕ} → read_dated b ≡ Err m → in_force a b ≡ Ok First
  unfolding in_force
  only_first r f = rw (day_counts a r, no_day_counts b f)

  only_second : {n : ℕ} → read_dated a ≡ Err n → Readable b → in_force a b ≡ Ok Second
  unfolding in_force
  only_second e q = rw (no_day_counts a e, day_counts b q)

  neither : {n m : ℕ} → read_dated a ≡ Err n → read_dated b ≡ Err m → in_force a b ≡ Err n
  unfolding in_force
  neither e f = rw (no_day_counts a e, no_day_counts b f)

  module _ (r : Readable a) (q : Readable b) where
    first_later : issue_day b < issue_day a → in_force a b ≡ Ok First
    unfolding in_force
    first_later h = rw (day_counts a r, day_counts b q, lt-ltb (issue_day b) (issue_day a) h)

    second_later : issue_day a < issue_day b → in_force a b ≡ Ok Second
    unfolding in_force
    second_later h = rw (day_counts a r, day_counts b q, le-ltb (issue_day b) (issue_day a) (omega arith), lt-ltb (issue_day a) (issue_day b) h)

    equal_files : a ≡ b → in_force a b ≡ Ok First
    unfolding in_force
    equal_files e = let d : issue_day a ≡ issue_day b = ap issue_day e in rw (day_counts a r, day_counts b q, le-ltb (issue_day b) (issue_day a) (omega arith), le-ltb (issue_day a) (issue_day b) (omega arith), (bytes_eq-Decides a b).1 e)

    same_day : issue_day a ≡ issue_day b → ¬ (a ≡ b) → in_force a b ≡ Err 29
    unfolding in_force
    same_day d apart = rw (day_counts a r, day_counts b q, le-ltb (issue_day b) (issue_day a) (omega arith), le-ltb (issue_day a) (issue_day b) (omega arith), differ_by a b apart (bytes_eq a b) refl)

  -- ---- so each is answered as it should

  pub tells_first : TellsFirst → in_force a b ≡ Ok First
  tells_first (r, inl cannot) = elim (either b) [ inl q ↦ absurd (cannot q) | inr f ↦ only_first r f.1 ]
  tells_first (r, inr (inl h)) = elim (either b) [ inl q ↦ first_later r q h | inr f ↦ only_first r f.1 ]
  tells_first (r, inr (inr e)) = equal_files r (rw e at r) e

  pub tells_second : TellsSecond → in_force a b ≡ Ok Second
  tells_second (q, inl cannot) = elim (either a) [ inl r ↦ absurd (cannot r) | inr e ↦ only_second e.1 q ]
  tells_second (q, inr h) = elim (either a) [ inl r ↦ second_later r q h | inr e ↦ only_second e.1 q ]

  pub tells_number : (n : ℕ) → TellsNumber n → in_force a b ≡ Err n
  tells_number n (inl (e, cannot)) = elim (either b) [ inl q ↦ absurd (cannot q) | inr f ↦ neither e f.1 ]
  tells_number n (inr (z, r, q, d, apart)) = same_day r q d apart ∙ ap Err (sym z)

  -- ---- one of the three holds

  abbrev pub Told : Type 0
  Told = TellsFirst ⊎ (TellsSecond ⊎ ((n : ℕ) × TellsNumber n))

  both_by : Readable a → Readable b → (issue_day b < issue_day a) ⊎ (issue_day a ≤ issue_day b) → (issue_day a < issue_day b) ⊎ (issue_day b ≤ issue_day a) → (a ≡ b) ⊎ ¬ (a ≡ b) → Told
  both_by r q (inl h) g s = inl (r, inr (inl h))
  both_by r q (inr h) (inl g) s = inr (inl (q, inr g))
  both_by r q (inr h) (inr g) (inl e) = inl (r, inr (inr e))
  both_by r q (inr h) (inr g) (inr apart) = inr (inr (29, inr (refl, r, q, omega arith, apart)))

  told_by : Readable a ⊎ ((n : ℕ) × (read_dated a ≡ Err n)) → Readable b ⊎ ((n : ℕ) × (read_dated b ≡ Err n)) → Told
  told_by (inl r) (inl q) = both_by r q (lt_cases (issue_day b) (issue_day a)) (lt_cases (issue_day a) (issue_day b)) (same_or_not a b)
  told_by (inl r) (inr f) = inl (r, inl (not_readable b f.1))
  told_by (inr e) (inl q) = inr (inl (q, inl (not_readable a e.1)))
  told_by (inr e) (inr f) = inr (inr (e.0, inl (e.1, not_readable b f.1)))

  pub told : Told
  told = told_by (either a) (either b)

  -- ---- and the answer says which

  first_by : Told → in_force a b ≡ Ok First → TellsFirst
  first_by (inl t) e = t
  first_by (inr (inl t)) e = let k = sym (tells_second t) ∙ e in cc
  first_by (inr (inr (n, t))) e = let k = sym (tells_number n t) ∙ e in cc

  second_by : Told → in_force a b ≡ Ok Second → TellsSecond
  second_by (inl t) e = let k = sym (tells_first t) ∙ e in cc
  second_by (inr (inl t)) e = t
  second_by (inr (inr (n, t))) e = let k = sym (tells_number n t) ∙ e in cc

  number_by : (n : ℕ) → Told → in_force a b ≡ Err n → TellsNumber n
  number_by n (inl t) e = let k = sym (tells_first t) ∙ e in cc
  number_by n (inr (inl t)) e = let k = sym (tells_second t) ∙ e in cc
  number_by n (inr (inr (m, t))) e = let k = sym (tells_number m t) ∙ e in let z : m ≡ n = cc in rw z at t

  pub in_force_first : (in_force a b ≡ Ok First) ↔ TellsFirst
  in_force_first = (first_by told, tells_first)

  pub in_force_second : (in_force a b ≡ Ok Second) ↔ TellsSecond
  in_force_second = (second_by told, tells_second)

  pub in_force_numbers : (n : ℕ) → (in_force a b ≡ Err n) ↔ TellsNumber n
  in_force_numbers n = (number_by n told, tells_number n)

  -- a file in force has a whole day, since it can be read: its part is what follows that
  pub first_long : Ok First ≡ in_force a b → 2 ≤ length a
  first_long e = has_day a (in_force_first.0 (sym e)).0

  pub second_long : Ok Second ≡ in_force a b → 2 ≤ length b
  second_long e = has_day b (in_force_second.0 (sym e)).0
