-- The endless repetition of a cycle and the numbers by which it repeats. The period is the least of them, and divides the count. A repetition that is
-- begun at a later report repeats by the same numbers, since every report comes again behind that one.
use Prim.Native.Nat.{ℕ, zero, suc, ◌+◌, ◌-◌, ◌*◌, ◌/◌, ◌%◌, ◌≤◌, ◌<◌}
use native.Mathlib.Omega.{arith}
use native.Mathlib.Nat.{add_assoc, add-zero, zero-mul, suc-mul, mul-suc, mod-add-mod, add-mod_right, mod-lt, mod-add-div', div-add-mod', mul-le-mul_right, one-mul}
use native.Mathlib.Decide.{dec_lt, ℕ_discrete}
use mathlib.Core.Path.{◌≡◌, refl, sym, ◌∙◌, ap}
use mathlib.Core.Logic.{◌↔◌, ⊎_elim}
use mathlib.Core.Bool.{true, false}
use mathlib.Core.List.{List}
use lib.ListN.{length, get_or}
use Rattle.numbers.proofs.All.{all_right}
use Rattle.numbers.proofs.Cases.{lt_cases}
use Rattle.numbers.proofs.Tests.{not_both}
use Rattle.numbers.proofs.Firsts.{IsFirst, first_right}
use Rattle.pairs.specs.declared.Pair.{Pair}
use Rattle.pairs.specs.Pairs.{no_pair}
use Rattle.normal.specs.Normal.{pair_of, same, repeats, period}
use Rattle.normal.proofs.Orders.{same_right}

-- after n reports the same again
abbrev pub Again : (ℕ → Pair) → ℕ → Type 0
Again f n = (i : ℕ) → f (i + n) ≡ f i

-- g is f begun at report k
abbrev pub Begun : (ℕ → Pair) → ℕ → (ℕ → Pair) → Type 0
Begun f k g = (i : ℕ) → g i ≡ f (k + i)

module _ (f : ℕ → Pair) where
  pub again_rounds : (n : ℕ) → Again f n → (u i : ℕ) → f (i + u * n) ≡ f i
  again_rounds n h zero i = rw (zero-mul, add-zero)
  again_rounds n h (suc u) i = rw (suc-mul, ← add_assoc i (u * n) n, h (i + u * n)) (again_rounds n h u i)

  pub again_mod : (n : ℕ) → Again f n → (i : ℕ) → f (i % n) ≡ f i
  again_mod n h i = sym (again_rounds n h (i / n) (i % n)) ∙ ap f (mod-add-div' i n)

  pub begun_again : (n k : ℕ) (g : ℕ → Pair) → Again f n → Begun f k g → Again g n
  begun_again n k g h b i = rw (b (i + n), b i, ← add_assoc k i n) (h (k + i))

  -- from the later report it goes on to the first report of a round
  pub begun_back : (n k : ℕ) (g : ℕ → Pair) → 1 ≤ n → Again f n → Begun f k g → Begun g (k * (n - 1)) f
  begun_back n k g some h b i =
      let e : n ≡ suc (n - 1) = omega arith in
      let m : k * n ≡ k * (n - 1) + k = ap (λ (x : ℕ). k * x) e ∙ mul-suc k (n - 1) in
      let z : k + (k * (n - 1) + i) ≡ i + k * n = omega arith in
      rw (b (k * (n - 1) + i), z) (sym (again_rounds n h k i))

pub begun_twice : (f g h : ℕ → Pair) (k j : ℕ) → Begun f k g → Begun g j h → Begun f (k + j) h
begun_twice f g h k j a b i = rw (b i, a (j + i), add_assoc)

module _ (ps : List Pair) where
  pub pair_place : (i : ℕ) → pair_of ps i ≡ get_or ps (i % length ps) no_pair
  unfolding pair_of
  pair_place i = refl

  pub pair_again : Again (pair_of ps) (length ps)
  unfolding pair_of
  pair_again i = rw add-mod_right

  pair_mod : (n i : ℕ) → pair_of ps (i % length ps + n) ≡ pair_of ps (i + n)
  unfolding pair_of
  pair_mod n i = ap (λ (x : ℕ). get_or ps x no_pair) (mod-add-mod i (length ps) n)

  module _ (some : 1 ≤ length ps) where
    pub repeats_right : (n : ℕ) → (repeats ps n ≡ true) ↔ Again (pair_of ps) n
    unfolding repeats
    repeats_right n =
        let k = all_right (λ i. same (pair_of ps (i + n)) (pair_of ps i)) (length ps) in (
          λ e i. sym (pair_mod n i) ∙ (same_right _ _).0 (k.0 e (i % length ps) (mod-lt i some)) ∙ again_mod (pair_of ps) (length ps) pair_again i,
          λ h. k.1 (λ i q. (same_right _ _).1 (h i)),
        )

    period_first : IsFirst (repeats ps) 1 (period ps)
    unfolding period
    period_first = first_right (repeats ps) (length ps) 1 (length ps) some (omega arith) ((repeats_right (length ps)).1 pair_again)

    pub period_some : 1 ≤ period ps
    period_some = period_first.from

    pub period_again : Again (pair_of ps) (period ps)
    period_again = (repeats_right (period ps)).0 period_first.passes

    pub period_least : (n : ℕ) → 1 ≤ n → Again (pair_of ps) n → period ps ≤ n
    period_least n h e = period_first.least n h ((repeats_right n).1 e)

    pub period_short : period ps ≤ length ps
    period_short = period_least (length ps) some pair_again

    -- what is left over of the length would be a shorter period
    period_divides : length ps % period ps ≡ 0
    period_divides =
        let p = period ps in
        let c = length ps in
        let over : Again (pair_of ps) (c % p) =
        λ i.
        let z : i + c % p + c / p * p ≡ i + c = omega (arith, mod-add-div' c p) in
        sym (again_rounds (pair_of ps) p period_again (c / p) (i + c % p)) ∙ ap (pair_of ps) z ∙ pair_again i in
        elim (dec_lt 0 (c % p)) [ yes h ↦ absurd (let k = period_least (c % p) h over in omega (arith, mod-lt c period_some)) | no h ↦ omega arith ]

    -- a number that is not above the period is the period, or below it
    module _ (n : ℕ) (low : 1 ≤ n) (most : n ≤ period ps) where
      pub period_found : repeats ps n ≡ true → n ≡ period ps
      period_found e = omega (arith, period_first.least n low e)

      pub period_above : repeats ps n ≡ false → n + 1 ≤ period ps
      period_above e = elim (ℕ_discrete n (period ps)) [ yes z ↦ absurd (not_both (repeats ps (period ps)) period_first.passes (rw z at e)) | no z ↦ omega arith ]

      pub period_divisor : ¬ (length ps % n ≡ 0) → n + 1 ≤ period ps
      period_divisor h = elim (ℕ_discrete n (period ps)) [ yes z ↦ absurd (h (rw z period_divides)) | no z ↦ omega arith ]

    -- a period above half of the length is the length
    pub period_whole : length ps / 2 < period ps → length ps ≡ period ps
    period_whole h =
        let c = length ps in
        let p = period ps in
        let e : c ≡ c / p * p = omega (arith, div-add-mod' c p, period_divides) in
        ⊎_elim (λ few. omega (arith, period_short, e, mul-le-mul_right p (let q : c / p ≤ 1 = omega arith in q), one-mul p)) (λ more. absurd (let k = mul-le-mul_right p more in omega arith)) (lt_cases (c / p) 2)
