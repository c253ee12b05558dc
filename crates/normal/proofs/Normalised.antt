-- What is answered and stored, by the count and by the period, which is the length of the normal form; so 12 and 20 are the only numbers.
use Prim.Native.Nat.{ℕ, ◌≤◌, ◌<◌}
use native.Mathlib.Omega.{arith}
use mathlib.Core.Path.{◌≡◌, refl, sym, ap}
use mathlib.Core.Logic.{◌↔◌, ◌⊎◌, inl, inr, ⊎_elim}
use mathlib.Core.Bool.{Bool, true, false, cond}
use mathlib.Core.List.{List}
use lib.ListN.{length}
use lib.Dec.{leb}
use borrow.Author.Tests.{le-leb, lt-leb, leb-true, leb-false}
use Rattle.std.specs.Prelude.{Result, Ok, Err}
use Rattle.numbers.proofs.Tests.{not_both}
use Rattle.pairs.specs.declared.Pair.{Pair}
use Rattle.pairs.specs.Pairs.{count_in, laid_over}
use Rattle.pairs.proofs.Counts.{count_in_true}
use Rattle.normal.specs.Normal.{period, row, least_start, normal_form}
use Rattle.normal.specs.Answers.{normalised, places_after}
use Rattle.cycle.proofs.Steps.{count_right}
use Rattle.normal.proofs.Turns.{normal_is, normal_length}

-- 1 to 512 pairs
pub record Counted (ps : List Pair) : Type 0 where
  pub counted : count_in (length ps) ≡ true
  pub some : 1 ≤ length ps
  pub few : length ps ≤ 512

pub counted_in : (ps : List Pair) → count_in (length ps) ≡ true → Counted ps
counted_in ps e = let k = count_in_true (length ps) e in record { counted = e; some = k.0; few = k.1 }

-- the answer
module _ (places : ℕ) (ps : List Pair) where
  pub bad_count : count_in (length ps) ≡ false → normalised places ps ≡ Err 12
  unfolding normalised
  bad_count e = rw e

  module _ (c : Counted ps) where
    pub enough_places : period ps ≤ places → normalised places ps ≡ Ok (period ps)
    unfolding normalised
    enough_places h = rw (c.counted, normal_length ps c.some, le-leb (period ps) places h)

    pub few_places : places < period ps → normalised places ps ≡ Err 20
    unfolding normalised
    few_places h = rw (c.counted, normal_length ps c.some, lt-leb (period ps) places h)

-- by it, what the lent list holds afterwards
module _ (ps old : List Pair) (n : ℕ) where
  pub form_stored : normalised (length old) ps ≡ Ok n → places_after ps old ≡ laid_over (row ps (least_start ps) (period ps)) old
  unfolding places_after
  form_stored e = rw (e, normal_is ps)

  pub refused_kept : normalised (length old) ps ≡ Err n → places_after ps old ≡ old
  unfolding places_after
  refused_kept e = rw e

-- 12 and 20, each exactly where it says
module _ (ps : List Pair) (places n : ℕ) where
  abbrev Wrong : Type 0
  Wrong = (n ≡ 12) × ¬ ((1 ≤ length ps) × (length ps ≤ 512))

  abbrev Small : Type 0
  Small = (n ≡ 20) × (1 ≤ length ps) × (length ps ≤ 512) × (places < length (normal_form ps))

  told : (count room : Bool) → count_in (length ps) ≡ count → leb (length (normal_form ps)) places ≡ room
      → ◌≡◌ {A = Result ℕ ℕ} (cond count (cond room (Ok (length (normal_form ps))) (Err 20)) (Err 12)) (Err n) ↔ (Wrong ⊎ Small)
  told false room a b =
      let wrong : ¬ ((1 ≤ length ps) × (length ps ≤ 512)) = λ k. not_both _ (count_right (length ps) k.0 k.1) a in (
        λ e. inl (let z : 12 ≡ n = cc in sym z, wrong),
        ⊎_elim (λ w. ap Err (sym w.0)) (λ w. absurd (wrong (w.1, w.2))),
      )
  told true false a b =
      let k = count_in_true (length ps) a in (
        λ e. inr (let z : 20 ≡ n = cc in sym z, k.0, k.1, leb-false (length (normal_form ps)) places b),
        ⊎_elim (λ w. absurd (w.1 k)) (λ w. ap Err (sym w.0)),
      )
  told true true a b =
      let k = count_in_true (length ps) a in (
        λ e. absurd (let z : ◌≡◌ {A = ℕ} 0 1 = cc in omega arith),
        ⊎_elim (λ w. absurd (w.1 k)) (λ w. absurd (let h = leb-true (length (normal_form ps)) places b in let z = w.3 in omega arith)),
      )

  pub normal_numbers : (normalised places ps ≡ Err n) ↔ (Wrong ⊎ Small)
  unfolding normalised
  normal_numbers = told (count_in (length ps)) (leb (length (normal_form ps)) places) refl refl
