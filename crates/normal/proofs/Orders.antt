-- The order of lists of pairs is total, transitive and antisymmetric: at each place one pair is before the other, or both are the same.
use Prim.Native.Nat.{ℕ, zero, suc, ◌<◌}
use native.Mathlib.Omega.{arith}
use native.Mathlib.Decide.{dec_lt}
use mathlib.Core.Path.{◌≡◌, refl, sym, ◌∙◌, ap}
use mathlib.Core.Logic.{◌↔◌, ◌⊎◌, inl, inr, ⊎_elim}
use mathlib.Core.Bool.{true, false, and-eq-true_iff}
use mathlib.Core.List.{List, [], ◌∷◌}
use borrow.Author.Tests.{lt-ltb, le-ltb, eq-eqb, ne_eqb, eqb-true}
use Rattle.numbers.proofs.Cases.{lt_cases}
use Rattle.numbers.proofs.Tests.{not_both}
use Rattle.pairs.specs.declared.Pair.{Pair}
use Rattle.normal.specs.Normal.{same, in_order}

-- p is before q
pub data Earlier (p q : Pair) : Type 0 where
  by_gap : p.gap < q.gap → Earlier p q
  by_size : p.gap ≡ q.gap → p.size < q.size → Earlier p q

data Compared (p q : Pair) : Type 0 where
  less : Earlier p q → Compared p q
  equal : p ≡ q → Compared p q
  greater : Earlier q p → Compared p q

pub pair_equal : (p q : Pair) → p.gap ≡ q.gap → p.size ≡ q.size → p ≡ q
pair_equal p q g s = ap (λ (x : ℕ). record { gap = x; size = p.size }) g ∙ ap (λ (x : ℕ). record { gap = q.gap; size = x }) s

pub same_right : (p q : Pair) → (same p q ≡ true) ↔ (p ≡ q)
same_right p q = (
  λ e. let k = simp and-eq-true_iff at e in pair_equal p q (eqb-true _ _ k.0) (eqb-true _ _ k.1),
  λ e. rw (e, eq-eqb q.gap q.gap refl, eq-eqb q.size q.size refl),
)

compared : (p q : Pair) → Compared p q
compared p q =
    elim (dec_lt p.gap q.gap) [
      | yes h ↦ less (by_gap h)
      | no h ↦ elim (dec_lt q.gap p.gap) [
        | yes k ↦ greater (by_gap k)
        | no k ↦
            let e : p.gap ≡ q.gap = omega arith in
            elim (dec_lt p.size q.size) [
              | yes a ↦ less (by_size e a)
              | no a ↦ elim (dec_lt q.size p.size) [ yes b ↦ greater (by_size (sym e) b) | no b ↦ equal (pair_equal p q e (omega arith)) ]
            ]
      ]
    ]

earlier_on : (p q r : Pair) → Earlier p q → Earlier q r → Earlier p r
earlier_on p q r (by_gap a) (by_gap b) = by_gap (omega arith)
earlier_on p q r (by_gap a) (by_size b c) = by_gap (omega arith)
earlier_on p q r (by_size a c) (by_gap b) = by_gap (omega arith)
earlier_on p q r (by_size a c) (by_size b d) = by_size (omega arith) (omega arith)

module _ (p q : Pair) (ps qs : List Pair) where
  order_less : Earlier p q → in_order (p ∷ ps) (q ∷ qs) ≡ true
  unfolding in_order
  order_less (by_gap h) = rw (lt-ltb p.gap q.gap h)
  order_less (by_size e h) = rw (le-ltb p.gap q.gap (omega arith), eq-eqb p.gap q.gap e, lt-ltb p.size q.size h)

  pub order_equal : p ≡ q → in_order (p ∷ ps) (q ∷ qs) ≡ in_order ps qs
  unfolding in_order
  order_equal e =
      let g : p.gap ≡ q.gap = ap (λ (x : Pair). x.gap) e in
      let s : p.size ≡ q.size = ap (λ (x : Pair). x.size) e in
      rw (le-ltb p.gap q.gap (omega arith), eq-eqb p.gap q.gap g, le-ltb p.size q.size (omega arith), eq-eqb p.size q.size s)

  pub order_greater : Earlier q p → in_order (p ∷ ps) (q ∷ qs) ≡ false
  unfolding in_order
  order_greater (by_gap h) = rw (le-ltb p.gap q.gap (omega arith), ne_eqb p.gap q.gap (omega arith))
  order_greater (by_size e h) =
      rw (le-ltb p.gap q.gap (omega arith), eq-eqb p.gap q.gap (sym e), le-ltb p.size q.size (omega arith), ne_eqb p.size q.size (omega arith))

pub order_total : (ps qs : List Pair) → (in_order ps qs ≡ true) ⊎ (in_order qs ps ≡ true)
unfolding in_order
order_total [] qs = inl refl
order_total (p ∷ ps) [] = inr refl
order_total (p ∷ ps) (q ∷ qs) = pick (compared p q) (order_total ps qs)
  where
    pick : Compared p q → (in_order ps qs ≡ true) ⊎ (in_order qs ps ≡ true) → (in_order (p ∷ ps) (q ∷ qs) ≡ true) ⊎ (in_order (q ∷ qs) (p ∷ ps) ≡ true)
    pick (less h) ih = inl (order_less p q ps qs h)
    pick (greater h) ih = inr (order_less q p qs ps h)
    pick (equal e) ih = ⊎_elim (λ k. inl (order_equal p q ps qs e ∙ k)) (λ k. inr (order_equal q p qs ps (sym e) ∙ k)) ih

order_refl : (ps : List Pair) → in_order ps ps ≡ true
order_refl ps = ⊎_elim (λ e. e) (λ e. e) (order_total ps ps)

pub order_antisymmetric : (ps qs : List Pair) → in_order ps qs ≡ true → in_order qs ps ≡ true → ps ≡ qs
unfolding in_order
order_antisymmetric [] [] a b = refl
order_antisymmetric [] (q ∷ qs) a b = absurd (not_both _ b refl)
order_antisymmetric (p ∷ ps) [] a b = absurd (not_both _ a refl)
order_antisymmetric (p ∷ ps) (q ∷ qs) a b = pick (compared p q) a b (order_antisymmetric ps qs)
  where
    pick : Compared p q → in_order (p ∷ ps) (q ∷ qs) ≡ true → in_order (q ∷ qs) (p ∷ ps) ≡ true
        → (in_order ps qs ≡ true → in_order qs ps ≡ true → ps ≡ qs) → p ∷ ps ≡ q ∷ qs
    pick (less h) a b ih = absurd (not_both _ b (order_greater q p qs ps h))
    pick (greater h) a b ih = absurd (not_both _ a (order_greater p q ps qs h))
    pick (equal e) a b ih = rw (e, ih (sym (order_equal p q ps qs e) ∙ a) (sym (order_equal q p qs ps (sym e)) ∙ b))

pub order_transitive : (ps qs rs : List Pair) → in_order ps qs ≡ true → in_order qs rs ≡ true → in_order ps rs ≡ true
unfolding in_order
order_transitive [] qs rs a b = refl
order_transitive (p ∷ ps) [] rs a b = absurd (not_both _ a refl)
order_transitive (p ∷ ps) (q ∷ qs) [] a b = absurd (not_both _ b refl)
order_transitive (p ∷ ps) (q ∷ qs) (r ∷ rs) a b = pick (compared p q) (compared q r) a b (order_transitive ps qs rs)
  where
    pick : Compared p q → Compared q r → in_order (p ∷ ps) (q ∷ qs) ≡ true → in_order (q ∷ qs) (r ∷ rs) ≡ true
        → (in_order ps qs ≡ true → in_order qs rs ≡ true → in_order ps rs ≡ true) → in_order (p ∷ ps) (r ∷ rs) ≡ true
    pick (less h) (less k) a b ih = order_less p r ps rs (earlier_on p q r h k)
    pick (less h) (equal k) a b ih = order_less p r ps rs (rw k at h)
    pick (less h) (greater k) a b ih = absurd (not_both _ b (order_greater q r qs rs k))
    pick (equal h) (less k) a b ih = order_less p r ps rs (rw (← h) at k)
    pick (equal h) (equal k) a b ih = order_equal p r ps rs (h ∙ k) ∙ ih (sym (order_equal p q ps qs h) ∙ a) (sym (order_equal q r qs rs k) ∙ b)
    pick (equal h) (greater k) a b ih = absurd (not_both _ b (order_greater q r qs rs k))
    pick (greater h) k a b ih = absurd (not_both _ a (order_greater p q ps qs h))

-- of some lists one comes first
pub some_least : (g : ℕ → List Pair) (n : ℕ) → 0 < n → (i : ℕ) × ((i < n) × ((j : ℕ) → j < n → in_order (g i) (g j) ≡ true))
some_least g zero h = absurd (omega arith)
some_least g (suc zero) h = (0, (omega arith, λ j q. let z : j ≡ 0 = omega arith in rw z (order_refl (g 0))))
some_least g (suc (suc n)) h =
    let k = some_least g (suc n) (omega arith) in
    ⊎_elim
    (λ e. (k.0, (let q = k.1.0 in omega arith, λ j q. ⊎_elim (λ r. k.1.1 j r) (λ r. let z : j ≡ suc n = omega arith in rw z e) (lt_cases j (suc n)))))
    (λ e. (
      suc n,
      (
        omega arith,
        λ j q.
            ⊎_elim
            (λ r. order_transitive (g (suc n)) (g k.0) (g j) e (k.1.1 j r))
            (λ r. let z : j ≡ suc n = omega arith in rw z (order_refl (g (suc n))))
            (lt_cases j (suc n)),
      ),
    ))
    (order_total (g k.0) (g (suc n)))
