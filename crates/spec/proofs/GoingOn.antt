-- Going on where there is no number to tell, and telling it where there is one: that of a specification, or the one with which the
-- operations begin that take one range of gaps.
use Prim.Native.Nat.{ℕ, ◌≤◌}
use native.Mathlib.Omega.{arith}
use mathlib.Core.Path.{◌≡◌, refl, sym, ◌∙◌, ap}
use mathlib.Core.Logic.{◌⊎◌, inl, inr, ◌↔◌, ⊎_elim}
use mathlib.Core.Bool.{Bool, true, false, cond}
use lib.Dec.{eqb}
use borrow.Author.Tests.{eq-eqb, ne_eqb, eqb-true, eqb-false}
use Rattle.std.specs.Prelude.{Option, None, Some, is_some, Result, Ok, Err}
use Rattle.spec.specs.declared.Rate.{Rate}
use Rattle.spec.specs.declared.Range.{Range}
use Rattle.spec.specs.declared.Spec.{Spec}
use Rattle.spec.specs.declared.Rates.{Rates}
use Rattle.spec.specs.Limits.{limits, order, starts_above, first_number, spec_number, IsAccepted, if_none}
use Rattle.spec.specs.Rates.{second_number, one_range_number, HasTwoRanges, if_one_range, rates_from, both_rates, started, if_rates}

-- a number is 0 or not
pub none_or : (n : ℕ) → (n ≡ 0) ⊎ (¬ (n ≡ 0))
none_or n = pick (eqb n 0) refl
  where
    pick : (b : Bool) → eqb n 0 ≡ b → (n ≡ 0) ⊎ (¬ (n ≡ 0))
    pick true t = inl (eqb-true n 0 t)
    pick false t = inr (eqb-false n 0 t)

module _ {A : Type 0} (n : ℕ) (goOn : A) (tell : ℕ → A) where
  pub goes_on : n ≡ 0 → if_none n goOn tell ≡ goOn
  unfolding if_none
  goes_on e = rw (eq-eqb _ _ e)

  pub stops : ¬ (n ≡ 0) → if_none n goOn tell ≡ tell n
  unfolding if_none
  stops e = rw (ne_eqb _ _ e)

  -- an answer that does not tell the number comes of going on
  pub went_on : (y : A) → (¬ (n ≡ 0) → ¬ (tell n ≡ y)) → if_none n goOn tell ≡ y → (n ≡ 0) × (goOn ≡ y)
  went_on y other e = ⊎_elim (λ z. (z, sym (goes_on z) ∙ e)) (λ z. absurd (other z (sym (stops z) ∙ e))) (none_or n)

-- "3 a value out of its limits; 4 a lower bound above its upper"; "24 .. after 4": no other
abbrev pub Few : ℕ → Type 0
Few n = ((3 ≤ n) × (n ≤ 4)) ⊎ (n ≡ 24)

pub number_few : (s : Spec) → ¬ IsAccepted s → Few (spec_number s)
unfolding spec_number first_number
number_few s = pick (limits s) (order s) (starts_above s.second s.smax)
  where
    pick : (a b c : Bool) → ¬ (first_number a b c ≡ 0) → Few (first_number a b c)
    pick true true true some = absurd (some refl)
    pick true true false some = inr refl
    pick true false c some = inl (omega arith, omega arith)
    pick false b c some = inl (omega arith, omega arith)

-- by whether there is a second range
second_or : (x : Option Range) → ((x ≡ None) × (second_number x ≡ 0)) ⊎ ((¬ (x ≡ None)) × (second_number x ≡ 25))
unfolding second_number
second_or None = inl (refl, refl)
second_or (Some x) = inr (λ e. absurd (let z : ◌≡◌ {A = ℕ} 0 1 = cc in omega arith), refl)

-- so a test for it tells the number
pub second_told : (x : Option Range) {there : Bool} → there ≡ is_some x → second_number x ≡ cond there 25 0
unfolding second_number
second_told None e = rw e refl
second_told (Some x) e = rw e refl

-- an accepted specification with one range of gaps
abbrev pub HasOneRange : Spec → Type 0
HasOneRange s = one_range_number s ≡ 0

-- 25 follows 24, and is given exactly to an accepted specification with a second range.
module _ (s : Spec) where
  of_refused : ¬ IsAccepted s → one_range_number s ≡ spec_number s
  unfolding one_range_number
  of_refused a = stops (spec_number s) (second_number s.second) (λ n. n) a

  of_accepted : IsAccepted s → one_range_number s ≡ second_number s.second
  unfolding one_range_number
  of_accepted a = goes_on (spec_number s) (second_number s.second) (λ n. n) a

  pub one_range_iff : HasOneRange s ↔ (IsAccepted s × (s.second ≡ None))
  one_range_iff = (
    λ e.
        let a = ⊎_elim (λ h. h) (λ h. absurd (h (sym (of_refused h) ∙ e))) (none_or (spec_number s)) in
        (a, ⊎_elim (λ h. h.0) (λ h. absurd (omega (arith, of_accepted a, h.1))) (second_or s.second)),
    λ h. of_accepted h.0 ∙ ⊎_elim (λ k. k.1) (λ k. absurd (k.0 h.1)) (second_or s.second),
  )

  two_ranges_iff : (one_range_number s ≡ 25) ↔ HasTwoRanges s
  two_ranges_iff = (
    λ e.
        let few : ¬ (spec_number s ≡ 25) = λ z. ⊎_elim (λ h. omega arith) (λ h. omega arith) (number_few s (λ none. omega arith)) in
        let a = ⊎_elim (λ h. h) (λ h. absurd (few (sym (of_refused h) ∙ e))) (none_or (spec_number s)) in
        (a, ⊎_elim (λ h. absurd (omega (arith, of_accepted a, h.1))) (λ h. h.0) (second_or s.second)),
    λ h. of_accepted h.0 ∙ ⊎_elim (λ k. absurd (h.1 k.0)) (λ k. k.1) (second_or s.second),
  )

  pub one_range_few : ¬ HasOneRange s → ((3 ≤ one_range_number s) × (one_range_number s ≤ 4)) ⊎ ((24 ≤ one_range_number s) × (one_range_number s ≤ 25))
  one_range_few some =
      ⊎_elim
      (λ a. ⊎_elim (λ h. absurd (some (of_accepted a ∙ h.1))) (λ h. inr (omega (arith, of_accepted a, h.1))) (second_or s.second))
      (λ a. ⊎_elim (λ h. inl (omega (arith, of_refused a))) (λ h. inr (omega (arith, of_refused a))) (number_few s a))
      (none_or (spec_number s))

  -- so an operation that begins so and has no 25 of its own tells 25 exactly there
  pub tells_25 : {A : Type 0} (goOn : A) (tell : ℕ → A) → ((n : ℕ) → tell n ≡ tell 25 → n ≡ 25) → (HasOneRange s → ¬ (goOn ≡ tell 25))
      → (if_one_range s goOn tell ≡ tell 25) ↔ HasTwoRanges s
  tells_25 goOn tell apart none = (
    λ e.
        ⊎_elim
        (λ z. absurd (none z (sym (goes_on (one_range_number s) goOn tell z) ∙ e)))
        (λ z. two_ranges_iff.0 (apart (one_range_number s) (sym (stops (one_range_number s) goOn tell z) ∙ e)))
        (none_or (one_range_number s)),
    λ h.
        let n = two_ranges_iff.1 h in
        stops (one_range_number s) goOn tell (λ z. omega (arith, n)) ∙ ap tell n,
  )

  -- what begins with both rates begins with the same numbers
  pub rates_begin : {A : Type 0} (goOn : Rates → A) (tell : ℕ → A)
      → if_rates (started s) goOn tell ≡ if_one_range s (if_rates (both_rates s) goOn tell) tell
  unfolding started
  rates_begin goOn tell =
      ⊎_elim
      (λ z. rw (goes_on (one_range_number s) (both_rates s) Err z, goes_on (one_range_number s) (if_rates (both_rates s) goOn tell) tell z))
      (λ z. rw (stops (one_range_number s) (both_rates s) Err z, stops (one_range_number s) (if_rates (both_rates s) goOn tell) tell z))
      (none_or (one_range_number s))

-- both rates, of a specification with one range of gaps only; else 5
from_rates : (supply demand : Option Rate) (n : ℕ) → rates_from supply demand ≡ Err n → n ≡ 5
unfolding rates_from
from_rates (Some x) (Some y) n e = absurd (let z : ◌≡◌ {A = ℕ} 0 1 = cc in omega arith)
from_rates (Some x) None n e = let z : ◌≡◌ {A = ℕ} 5 n = cc in sym z
from_rates None demand n e = let z : ◌≡◌ {A = ℕ} 5 n = cc in sym z

rate_absent : (s : Spec) (n : ℕ) → both_rates s ≡ Err n → n ≡ 5
unfolding both_rates
rate_absent s n e = from_rates s.supply s.demand n e

module _ (s : Spec) (q : Rates) where
  pub started_both : started s ≡ Ok q → HasOneRange s × (both_rates s ≡ Ok q)
  unfolding started
  started_both e =
      went_on (one_range_number s) (both_rates s) Err (Ok q) (λ some h. absurd (let z : ◌≡◌ {A = ℕ} 0 1 = cc in omega arith)) e

  pub started_at : HasOneRange s → both_rates s ≡ Ok q → started s ≡ Ok q
  unfolding started
  started_at h e = goes_on (one_range_number s) (both_rates s) Err h ∙ e

-- the numbers that it may refuse with: 3 to 5, 24 and 25
pub started_numbers : (s : Spec) (n : ℕ) → started s ≡ Err n → ((3 ≤ n) × (n ≤ 5)) ⊎ ((24 ≤ n) × (n ≤ 25))
unfolding started
started_numbers s n e =
    ⊎_elim
    (λ z. inl (omega (arith, rate_absent s n (sym (goes_on (one_range_number s) (both_rates s) Err z) ∙ e))))
    (λ z.
    let is : one_range_number s ≡ n = let x = sym (stops (one_range_number s) (both_rates s) Err z) ∙ e in cc in
    ⊎_elim (λ h. inl (omega arith, omega arith)) (λ h. inr (omega arith, omega arith)) (one_range_few s z))
    (none_or (one_range_number s))

-- what begins with both rates, and has no 25 of its own, tells 25 exactly there too
pub rates_tell_25 : (s : Spec) {A : Type 0} (goOn : Rates → A) (tell : ℕ → A) → ((n : ℕ) → tell n ≡ tell 25 → n ≡ 25)
    → ((q : Rates) → started s ≡ Ok q → ¬ (goOn q ≡ tell 25)) → (if_rates (started s) goOn tell ≡ tell 25) ↔ HasTwoRanges s
rates_tell_25 s goOn tell apart none =
    rw (rates_begin s goOn tell) (tells_25 s (if_rates (both_rates s) goOn tell) tell apart (λ one. pick one (both_rates s) refl))
  where
    pick : HasOneRange s → (r : Result Rates ℕ) → both_rates s ≡ r → ¬ (if_rates r goOn tell ≡ tell 25)
    pick one (Ok q) e x = none q (started_at s q one e) x
    pick one (Err n) e x = omega (arith, apart n x, rate_absent s n e)
