-- Why the search with two starts is right. Where the pairs from start i agree with those from start j before pair l, and there i's is the larger,
-- every turn that begins at i + m, with m at most l, comes after the one that begins at j + m, so none of them comes first. Once no start is
-- left beside the first, that is the one; the agreement never spans a whole turn, since then the cycle would repeat by j - i.
use Prim.Native.Nat.{ℕ, zero, suc, ◌+◌, ◌-◌, ◌*◌, ◌%◌, ◌≤◌, ◌<◌, max}
use native.Mathlib.Omega.{arith}
use native.Mathlib.Nat.{add_assoc, add-zero, mod-lt}
use native.Mathlib.Decide.{dec_lt}
use mathlib.Core.Path.{◌≡◌, refl, sym, ◌∙◌, ap}
use mathlib.Core.Logic.{⊎_elim}
use mathlib.Core.Bool.{false}
use mathlib.Core.List.{List}
use lib.ListN.{length}
use borrow.Author.Tests.{eq-eqb, ne_eqb, lt-ltb, le-ltb}
use Rattle.numbers.proofs.Cases.{lt_cases}
use Rattle.numbers.proofs.Tests.{not_both}
use Rattle.pairs.specs.declared.Pair.{Pair}
use Rattle.normal.specs.declared.least.Search.{Search}
use Rattle.normal.specs.Normal.{pair_of, period, row, in_order, least_start, normal_form}
use Rattle.normal.specs.Search.{IsKey, longer, second_on, first_on, stepped, Searches}
use Rattle.normal.proofs.Orders.{Earlier, by_gap, by_size, pair_equal, order_equal, order_greater}
use Rattle.normal.proofs.Periods.{Again, Begun, again_mod, begun_again, begun_back, period_some, period_again, period_least}
use Rattle.normal.proofs.Turns.{normal_first, start_inside}

-- the keys' order is that of the pairs
module _ (p q : Pair) (x y : ℕ) (a : IsKey p x) (b : IsKey q y) where
  key_equal : x ≡ y → p ≡ q
  key_equal e =
      let u = a.value in
      let v = b.value in
      let g : p.gap ≡ q.gap = omega (arith, a.size_fits, b.size_fits) in
      pair_equal p q g (omega (arith, a.size_fits, b.size_fits))

  key_less : x < y → Earlier p q
  key_less h =
      let u = a.value in
      let v = b.value in
      elim (dec_lt p.gap q.gap) [
        | yes k ↦ by_gap k
        | no k ↦ let e : p.gap ≡ q.gap = omega (arith, a.size_fits, b.size_fits) in by_size e (omega arith)
      ]

-- the three steps
module _ (s : Search) (x y : ℕ) where
  step_cases : (P : Search → Type 0) → (x ≡ y → P (longer s)) → (x < y → P (second_on s)) → (y < x → P (first_on s)) → P (stepped s x y)
  step_cases P equal less greater =
      elim (dec_lt x y) [
        | yes h ↦ rw (ne_eqb x y (omega arith), lt-ltb x y h) (less h)
        | no h ↦ elim (dec_lt y x) [
          | yes k ↦ rw (ne_eqb x y (omega arith), le-ltb x y (omega arith)) (greater k)
          | no k ↦ let e : x ≡ y = omega arith in rw (eq-eqb x y e) (equal e)
        ]
      ]

module _ (ps : List Pair) where
  row_after : (i j n l : ℕ) → l < n → ((m : ℕ) → m < l → pair_of ps (i + m) ≡ pair_of ps (j + m)) → Earlier (pair_of ps (j + l)) (pair_of ps (i + l))
      → in_order (row ps i n) (row ps j n) ≡ false
  unfolding row
  row_after i j zero l h agree b = absurd (omega arith)
  row_after i j (suc n) zero h agree b = order_greater _ _ _ _ (rw (add-zero j, add-zero i) at b)
  row_after i j (suc n) (suc l) h agree b =
      let e : pair_of ps i ≡ pair_of ps j = rw (add-zero i, add-zero j) at (agree 0 (omega arith)) in
      let z : suc l ≡ 1 + l = omega arith in
      order_equal _ _ _ _ e
      ∙ row_after (i + 1) (j + 1) n l (omega arith) (λ m q. rw (add_assoc i 1 m, add_assoc j 1 m) (agree (1 + m) (omega arith)))
      (rw (add_assoc i 1 l, add_assoc j 1 l) (rw z at b))

  module _ (some : 1 ≤ length ps) where
    not_first : (i j l : ℕ) → l < period ps → ((m : ℕ) → m < l → pair_of ps (i + m) ≡ pair_of ps (j + m)) → Earlier (pair_of ps (j + l)) (pair_of ps (i + l))
        → ¬ (least_start ps ≡ i)
    unfolding normal_form
    not_first i j l h agree b e = not_both _ (normal_first ps some j) (rw e (row_after i j (period ps) l h agree b))

    -- no start from i to i + l
    ruled_out : (i j l : ℕ) → l < period ps → ((m : ℕ) → m < l → pair_of ps (i + m) ≡ pair_of ps (j + m)) → Earlier (pair_of ps (j + l)) (pair_of ps (i + l))
        → i ≤ least_start ps → least_start ps ≤ i + l → ⊥
    ruled_out i j l h agree b lo hi =
        let m = least_start ps - i in
        let e : l ≡ m + (l - m) = omega arith in
        not_first (i + m) (j + m) (l - m) (omega arith)
        (λ n q. rw (add_assoc i m n, add_assoc j m n) (agree (m + n) (omega arith)))
        (rw (add_assoc i m (l - m), add_assoc j m (l - m)) (rw e at b))
        (omega arith)

    module _ (s : Search) (inside : Searches ps s) (x y : ℕ) (a : IsKey (pair_of ps (s.first + s.agreed)) x) (b : IsKey (pair_of ps (s.second + s.agreed)) y) (short : s.agreed < period ps) where
      step_equal : x ≡ y → Searches ps (longer s)
      step_equal e = record {
        apart = inside.apart;
        agree = λ m q. ⊎_elim (λ r. inside.agree m r) (λ r. let z : m ≡ s.agreed = omega arith in rw z (key_equal _ _ x y a b e)) (lt_cases m s.agreed);
        one_left = inside.one_left;
      }

      step_less : x < y → Searches ps (second_on s)
      step_less h = record {
        apart = omega (arith, inside.apart);
        agree = λ m q. absurd (omega arith);
        one_left = λ q.
            ⊎_elim (λ r. inside.one_left r)
            (λ r. absurd (ruled_out s.second s.first s.agreed short (λ m q. sym (inside.agree m q)) (key_less _ _ x y a b h) r (omega arith)))
            (lt_cases (least_start ps) s.second);
      }

      step_greater : y < x → Searches ps (first_on s)
      step_greater h =
          let next = max s.second (s.first + s.agreed + 1) in
          let out = ruled_out s.first s.second s.agreed short inside.agree (key_less _ _ y x b a h) in
          record {
            apart = omega arith;
            agree = λ m q. absurd (omega arith);
            one_left = λ q.
                ⊎_elim (λ r. absurd (let z = inside.one_left r in out (omega arith) (omega arith)))
                (λ r. ⊎_elim (λ t. absurd (out (omega (arith, inside.apart)) (omega arith))) (λ t. omega arith) (lt_cases (least_start ps) (s.first + s.agreed + 1)))
                (lt_cases (least_start ps) s.second);
          }

      pub searches_step : Searches ps (stepped s x y)
      searches_step = step_cases s x y (Searches ps) step_equal step_less step_greater

    -- the pairs from two starts of one turn differ somewhere
    starts_differ : (i j : ℕ) → i < j → j < period ps → ((m : ℕ) → m < period ps → pair_of ps (i + m) ≡ pair_of ps (j + m)) → ⊥
    starts_differ i j h k agree =
        let p = period ps in
        let d = j - i in
        let f = pair_of ps in
        let g : ℕ → Pair = λ m. f (i + m) in
        let ag : Again g p = begun_again f p i g (period_again ps some) (λ m. refl) in
        let g' : ℕ → Pair = λ m. f (j + m) in
        let ag' : Again g' p = begun_again f p j g' (period_again ps some) (λ m. refl) in
        let every : (m : ℕ) → g m ≡ g' m = λ m. sym (again_mod g p ag m) ∙ agree (m % p) (mod-lt m (period_some ps some)) ∙ again_mod g' p ag' m in
        let again : Again g d = λ m. let z : i + (m + d) ≡ j + m = omega arith in ap f z ∙ sym (every m) in
        let back : Begun g (i * (p - 1)) f = begun_back f p i g (period_some ps some) (period_again ps some) (λ m. refl) in
        omega (arith, period_least ps some d (omega arith) (begun_again g d (i * (p - 1)) f again back))

    -- the search has ended
    pub searches_end : (s : Search) → Searches ps s → (s.second < period ps → s.agreed < period ps → ⊥) → s.first ≡ least_start ps
    searches_end s inside h =
        ⊎_elim
        (λ q.
        absurd
        (starts_differ s.first s.second inside.apart q
        (λ m r. inside.agree m (⊎_elim (λ t. absurd (h q t)) (λ t. omega arith) (lt_cases s.agreed (period ps))))))
        (λ q. sym (inside.one_left (omega (arith, start_inside ps some))))
        (lt_cases s.second (period ps))
