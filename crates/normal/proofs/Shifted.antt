-- Where n divides the count, a list repeats by n exactly when it equals itself n places on, as far as it goes: from each place whole steps of n
-- lead back among the first n, and from the last n places on to the first n of the next round.
use Prim.Native.Nat.{ℕ, zero, suc, ◌+◌, ◌-◌, ◌*◌, ◌/◌, ◌%◌, ◌≤◌, ◌<◌}
use native.Mathlib.Omega.{arith}
use native.Mathlib.Nat.{add-zero, zero-mul, suc-mul, div-add-mod'}
use mathlib.Core.Path.{◌≡◌, sym, ◌∙◌, ap}
use mathlib.Core.Logic.{◌↔◌, ⊎_elim}
use mathlib.Core.Bool.{Bool, true}
use mathlib.Core.List.{List}
use lib.ListN.{length, get_or, take, drop}
use lib.Pointwise.{pointwise}
use Rattle.std.proofs.lemmas.List.{get_or-take, get_or-drop, ext_get_or, length-take-le, length-drop}
use Rattle.std.proofs.lemmas.Slice.Eq.{slice_eq-Decides}
use Rattle.numbers.proofs.All.{all_right, same_test}
use Rattle.numbers.proofs.Cases.{lt_cases}
use Rattle.pairs.specs.declared.Pair.{Pair}
use Rattle.pairs.specs.Pairs.{no_pair}
use Rattle.cycle.proofs.Runs.{first_turn, second_turn}
use Rattle.normal.specs.Normal.{pair_of, same, repeats}
use Rattle.normal.proofs.Orders.{same_right}
use Rattle.normal.proofs.Periods.{Again, pair_place, repeats_right}

module _ (ps : List Pair) (n : ℕ) (low : 1 ≤ n) (most : n ≤ length ps) where
  -- it equals itself n places on
  abbrev Shifted : Type 0
  Shifted = (j : ℕ) → j + n < length ps → get_or ps (j + n) no_pair ≡ get_or ps j no_pair

  shifted_steps : Shifted → (u j : ℕ) → j + u * n < length ps → get_or ps (j + u * n) no_pair ≡ get_or ps j no_pair
  shifted_steps s zero j h = rw (zero-mul, add-zero)
  shifted_steps s (suc u) j h =
      let e : j + suc u * n ≡ j + u * n + n = omega (arith, suc-mul u n) in
      rw e (s (j + u * n) (omega arith) ∙ shifted_steps s u j (omega arith))

  shifted_round : Shifted → length ps % n ≡ 0 → (j : ℕ) → j < length ps → pair_of ps (j + n) ≡ pair_of ps j
  shifted_round s divides j h = ⊎_elim inside over (lt_cases (j + n) (length ps))
    where
      c : ℕ
      c = length ps

      here : pair_of ps j ≡ get_or ps j no_pair
      here = pair_place ps j ∙ ap (λ (x : ℕ). get_or ps x no_pair) (first_turn j c h)

      inside : j + n < c → pair_of ps (j + n) ≡ pair_of ps j
      inside k = pair_place ps (j + n) ∙ ap (λ (x : ℕ). get_or ps x no_pair) (first_turn (j + n) c k) ∙ s j k ∙ sym here

      over : c ≤ j + n → pair_of ps (j + n) ≡ pair_of ps j
      over k =
          let x = j + n - c in
          let u = c / n - 1 in
          let e : c ≡ c / n * n = omega (arith, div-add-mod' c n) in
          let p : c / n ≡ suc u = let q : ¬ (c / n ≡ 0) = λ z. let y = rw (z, zero-mul) at e in omega arith in omega arith in
          let m : c ≡ u * n + n = e ∙ ap (λ (y : ℕ). y * n) p ∙ suc-mul u n in
          let z : x + u * n ≡ j = omega arith in
          pair_place ps (j + n) ∙ ap (λ (y : ℕ). get_or ps y no_pair) (second_turn (j + n) c k (omega arith))
          ∙ sym (shifted_steps s u x (omega arith)) ∙ ap (λ (y : ℕ). get_or ps y no_pair) z ∙ sym here

  shifted_again : Shifted → length ps % n ≡ 0 → repeats ps n ≡ true
  unfolding repeats
  shifted_again s divides = (all_right (λ i. same (pair_of ps (i + n)) (pair_of ps i)) (length ps)).1 (λ j h. (same_right _ _).1 (shifted_round s divides j h))

  again_shifted : Again (pair_of ps) n → Shifted
  again_shifted a j h =
      ap (λ (y : ℕ). get_or ps y no_pair) (sym (first_turn (j + n) (length ps) h)) ∙ sym (pair_place ps (j + n)) ∙ a j
      ∙ pair_place ps j ∙ ap (λ (y : ℕ). get_or ps y no_pair) (first_turn j (length ps) (omega arith))

  -- as two parts of the list
  abbrev behind : List Pair
  behind = take (length ps - n) (drop n ps)

  abbrev front : List Pair
  front = take (length ps - n) ps

  parts_equal : (behind ≡ front) ↔ Shifted
  parts_equal =
      let m = length ps - n in
      let at : (j : ℕ) → j < m → get_or behind j no_pair ≡ get_or ps (n + j) no_pair = λ j h. get_or-take m (drop n ps) j no_pair h ∙ get_or-drop n ps j no_pair in
      let long : length behind ≡ m = length-take-le m (drop n ps) (omega (arith, length-drop n ps)) in (
        λ e j h.
            let k : j < m = omega arith in
            let z : n + j ≡ j + n = omega arith in
            ap (λ (y : ℕ). get_or ps y no_pair) (sym z) ∙ sym (at j k) ∙ ap (λ (l : List Pair). get_or l j no_pair) e ∙ get_or-take m ps j no_pair k,
        λ s.
            ext_get_or no_pair behind front (long ∙ sym (length-take-le m ps (omega arith)))
            (λ j h.
            let k : j < m = omega (arith, long) in
            let z : n + j ≡ j + n = omega arith in
            at j k ∙ ap (λ (y : ℕ). get_or ps y no_pair) z ∙ s j (omega arith) ∙ sym (get_or-take m ps j no_pair k)),
      )

  pub repeats_parts : length ps % n ≡ 0 → (r : Bool) → r ≡ pointwise same behind front → r ≡ repeats ps n
  repeats_parts divides r e =
      let d = slice_eq-Decides (λ p q. same_right p q) behind front r e in
      same_test _ _ (
        λ t. shifted_again (parts_equal.0 (d.0 t)) divides,
        λ t. d.1 (parts_equal.1 (again_shifted ((repeats_right ps (omega arith) n).0 t))),
      )
