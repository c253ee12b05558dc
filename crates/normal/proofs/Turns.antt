-- The turns of the shortest list, and the one that comes first of all: its endless repetition is the cycle's, begun at `least_start`.
use Prim.Native.Nat.{ℕ, zero, suc, ◌+◌, ◌*◌, ◌/◌, ◌%◌, ◌≤◌, ◌<◌}
use native.Mathlib.Omega.{arith}
use native.Mathlib.Nat.{add_assoc, add-zero, mod-lt, mod-add-div'}
use mathlib.Core.Path.{◌≡◌, refl, sym, ◌∙◌, ap}
use mathlib.Core.Bool.{true}
use mathlib.Core.List.{List}
use lib.ListN.{length, get_or}
use Rattle.numbers.proofs.All.{all_right}
use Rattle.numbers.proofs.Firsts.{IsFirst, first_right}
use Rattle.pairs.specs.declared.Pair.{Pair}
use Rattle.pairs.specs.Pairs.{no_pair}
use Rattle.normal.specs.Normal.{pair_of, period, row, in_order, comes_first, least_start, normal_form}
use Rattle.normal.proofs.Orders.{some_least}
use Rattle.normal.proofs.Periods.{Begun, again_rounds, pair_place, period_some, period_again}

module _ (ps : List Pair) where
  pub row_length : (i n : ℕ) → length (row ps i n) ≡ n
  unfolding row
  row_length i zero = refl
  row_length i (suc n) = ap suc (row_length (i + 1) n)

  pub row_at : (i n j : ℕ) → j < n → get_or (row ps i n) j no_pair ≡ pair_of ps (i + j)
  unfolding row
  row_at i zero j h = absurd (omega arith)
  row_at i (suc n) zero h = rw add-zero
  row_at i (suc n) (suc j) h = row_at (i + 1) n j (omega arith) ∙ ap (pair_of ps) (omega arith)

  pub normal_is : normal_form ps ≡ row ps (least_start ps) (period ps)
  unfolding normal_form
  normal_is = refl

-- rows of the same reports
pub row_same : (ps qs : List Pair) (i j n : ℕ) → ((m : ℕ) → m < n → pair_of ps (i + m) ≡ pair_of qs (j + m)) → row ps i n ≡ row qs j n
unfolding row
row_same ps qs i j zero h = refl
row_same ps qs i j (suc n) h =
    let e : pair_of ps i ≡ pair_of qs j = rw (add-zero i, add-zero j) at (h 0 (omega arith)) in
    let next : (m : ℕ) → m < n → pair_of ps (i + 1 + m) ≡ pair_of qs (j + 1 + m) =
    λ m q. rw (add_assoc i 1 m, add_assoc j 1 m) (h (1 + m) (omega arith)) in
    rw (e, row_same ps qs (i + 1) (j + 1) n next)

module _ (ps : List Pair) (some : 1 ≤ length ps) where
  -- a row a whole number of periods later is the same
  row_mod : (j n : ℕ) → row ps (j % period ps) n ≡ row ps j n
  row_mod j n =
      row_same ps ps (j % period ps) j n
      (λ m q.
      let p = period ps in
      let z : j % p + m + j / p * p ≡ j + m = omega (arith, mod-add-div' j p) in
      sym (again_rounds (pair_of ps) p (period_again ps some) (j / p) (j % p + m)) ∙ ap (pair_of ps) z)

  -- some turn comes first
  start_some : (i : ℕ) × ((i < period ps) × (comes_first ps (period ps) i ≡ true))
  unfolding comes_first
  start_some =
      let p = period ps in
      let k = some_least (λ i. row ps i p) p (period_some ps some) in
      (k.0, (k.1.0, (all_right (λ j. in_order (row ps k.0 p) (row ps j p)) p).1 k.1.1))

  start_first : IsFirst (comes_first ps (period ps)) 0 (least_start ps)
  unfolding least_start
  start_first =
      let k = start_some in
      first_right (comes_first ps (period ps)) (period ps) 0 k.0 (omega arith) (let q = k.1.0 in omega arith) k.1.1

  pub start_inside : least_start ps < period ps
  start_inside = let k = start_some in let q = k.1.0 in omega (arith, start_first.least k.0 (omega arith) k.1.1)

  -- no turn comes before the normal form
  pub normal_first : (j : ℕ) → in_order (normal_form ps) (row ps j (period ps)) ≡ true
  unfolding comes_first normal_form
  normal_first j =
      let p = period ps in
      rw (row_mod j p) at
      ((all_right (λ j. in_order (row ps (least_start ps) p) (row ps j p)) p).0 start_first.passes (j % p) (mod-lt j (period_some ps some)))

  pub normal_length : length (normal_form ps) ≡ period ps
  unfolding normal_form
  normal_length = row_length ps (least_start ps) (period ps)

  pub normal_begun : Begun (pair_of ps) (least_start ps) (pair_of (normal_form ps))
  unfolding normal_form
  normal_begun i =
      let a = least_start ps in
      let p = period ps in
      let z : a + i % p + i / p * p ≡ a + i = omega (arith, mod-add-div' i p) in
      rw (pair_place (row ps a p) i, row_length ps a p, row_at ps a p (i % p) (mod-lt i (period_some ps some)))
      (sym (again_rounds (pair_of ps) p (period_again ps some) (i / p) (a + i % p)) ∙ ap (pair_of ps) z)
