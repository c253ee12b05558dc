-- Reading one pair, by cases: what `read_pair` is where each test of it went one way. Assumes nothing.
use mathlib.Core.Path.{◌≡◌, refl, ap}
use Prim.Native.Nat.{ℕ, ◌≤◌, ◌<◌}
use mathlib.Core.Bool.{Bool, true, false, cond}
use mathlib.Core.List.{List}
use native.Mathlib.Omega.{arith}
use lib.Dec.{eqb, ltb}
use lib.ListN.{length, get_or}
use borrow.Author.Tests.{eqb-true, eqb-false, ltb-true, ltb-false, eq-eqb, ne_eqb, lt-ltb, le-ltb}
use Rattle.std.specs.Prelude.{Option, Ok, Err}
use Rattle.pairs.specs.declared.Pair.{Pair}
use Rattle.cyclefile.specs.declared.reading.steps.Taken.{Taken}
use Rattle.cyclefile.specs.File.{last_pair, map_is_wrong, bytes_taken, pair_at, stands_in_vain, read_pair, taken_pair}

module _ (before : Option Pair) (b : List ℕ) where
  abbrev m : ℕ
  m = get_or b 0 0

  pub no_map : length b ≡ 0 → read_pair before b ≡ Err 18
  unfolding read_pair
  no_map e = simp (eq-eqb (length b) 0 e)

  module _ (some : length b ≡ 0 → ⊥) where
    pub wrong_map : map_is_wrong before m ≡ true → read_pair before b ≡ Err 17
    unfolding read_pair
    wrong_map w = simp (ne_eqb (length b) 0 some, w)

    module _ (right : map_is_wrong before m ≡ false) where
      pub field_cut : length b < bytes_taken m → read_pair before b ≡ Err 18
      unfolding read_pair
      field_cut short = simp (ne_eqb (length b) 0 some, right, lt-ltb (length b) (bytes_taken m) short)

      module _ (long : bytes_taken m ≤ length b) where
        pub in_vain_lem : stands_in_vain before m (pair_at (last_pair before) b) ≡ true → read_pair before b ≡ Err 19
        unfolding read_pair
        in_vain_lem v = simp (ne_eqb (length b) 0 some, right, le-ltb (length b) (bytes_taken m) long, v)

        pub taken : stands_in_vain before m (pair_at (last_pair before) b) ≡ false → read_pair before b ≡ Ok (taken_pair (pair_at (last_pair before) b) (bytes_taken m))
        unfolding read_pair
        taken v = simp (ne_eqb (length b) 0 some, right, le-ltb (length b) (bytes_taken m) long, v)

-- what is known where a pair was taken
pub record Took (before : Option Pair) (b : List ℕ) (p : Pair) (n : ℕ) : Type 0 where
  pub some : length b ≡ 0 → ⊥
  pub right : map_is_wrong before (get_or b 0 0) ≡ false
  pub long : bytes_taken (get_or b 0 0) ≤ length b
  pub none_in_vain : stands_in_vain before (get_or b 0 0) (pair_at (last_pair before) b) ≡ false
  pub pair_is : p ≡ pair_at (last_pair before) b
  pub taken_is : n ≡ bytes_taken (get_or b 0 0)

took_by : (before : Option Pair) (b : List ℕ) (p : Pair) (n : ℕ) → read_pair before b ≡ Ok (taken_pair p n) → (empty wrong short vain : Bool)
    → eqb (length b) 0 ≡ empty → map_is_wrong before (get_or b 0 0) ≡ wrong → ltb (length b) (bytes_taken (get_or b 0 0)) ≡ short → stands_in_vain before (get_or b 0 0) (pair_at (last_pair before) b) ≡ vain
    → Took before b p n
took_by before b p n h true wrong short vain e₁ e₂ e₃ e₄ = let k = no_map before b (eqb-true _ _ e₁) in cc
took_by before b p n h false true short vain e₁ e₂ e₃ e₄ = let k = wrong_map before b (eqb-false _ _ e₁) e₂ in cc
took_by before b p n h false false true vain e₁ e₂ e₃ e₄ = let k = field_cut before b (eqb-false _ _ e₁) e₂ (ltb-true _ _ e₃) in cc
took_by before b p n h false false false true e₁ e₂ e₃ e₄ = let k = in_vain_lem before b (eqb-false _ _ e₁) e₂ (ltb-false _ _ e₃) e₄ in cc
took_by before b p n h false false false false e₁ e₂ e₃ e₄ =
    let k = taken before b (eqb-false _ _ e₁) e₂ (ltb-false _ _ e₃) e₄ in
    let same : taken_pair p n ≡ taken_pair (pair_at (last_pair before) b) (bytes_taken (get_or b 0 0)) = cc in
    record { some = eqb-false _ _ e₁; right = e₂; long = ltb-false _ _ e₃; none_in_vain = e₄; pair_is = ap (λ (t : Taken). t.pair) same; taken_is = ap (λ (t : Taken). t.bytes) same }

pub took : (before : Option Pair) (b : List ℕ) (p : Pair) (n : ℕ) → read_pair before b ≡ Ok (taken_pair p n) → Took before b p n
took before b p n h = took_by before b p n h (eqb (length b) 0) (map_is_wrong before (get_or b 0 0)) (ltb (length b) (bytes_taken (get_or b 0 0))) (stands_in_vain before (get_or b 0 0) (pair_at (last_pair before) b)) refl refl refl refl

-- a pair takes a byte at least, and no more than there are
pub taken_some : (before : Option Pair) (b : List ℕ) (p : Pair) (n : ℕ) → read_pair before b ≡ Ok (taken_pair p n) → 1 ≤ n
taken_some before b p n h = omega (arith, (took before b p n h).taken_is)

pub taken_within : (before : Option Pair) (b : List ℕ) (p : Pair) (n : ℕ) → read_pair before b ≡ Ok (taken_pair p n) → n ≤ length b
taken_within before b p n h = let t = took before b p n h in rw t.taken_is t.long

-- a pair is refused with 17 to 19
stopped_by : (t₁ t₂ t₃ t₄ : Bool) (p : Pair) (k n : ℕ) → cond t₁ (Err 18) (cond t₂ (Err 17) (cond t₃ (Err 18) (cond t₄ (Err 19) (Ok (taken_pair p k))))) ≡ Err n → (17 ≤ n) × (n ≤ 19)
stopped_by true t₂ t₃ t₄ p k n h = let z : 18 ≡ n = cc in (omega arith, omega arith)
stopped_by false true t₃ t₄ p k n h = let z : 17 ≡ n = cc in (omega arith, omega arith)
stopped_by false false true t₄ p k n h = let z : 18 ≡ n = cc in (omega arith, omega arith)
stopped_by false false false true p k n h = let z : 19 ≡ n = cc in (omega arith, omega arith)
stopped_by false false false false p k n h = cc

pub stopped_number : (before : Option Pair) (b : List ℕ) (n : ℕ) → read_pair before b ≡ Err n → (17 ≤ n) × (n ≤ 19)
unfolding read_pair
stopped_number before b n h =
    stopped_by (eqb (length b) 0) (map_is_wrong before (get_or b 0 0)) (ltb (length b) (bytes_taken (get_or b 0 0))) (stands_in_vain before (get_or b 0 0) (pair_at (last_pair before) b)) (pair_at (last_pair before) b) (bytes_taken (get_or b 0 0)) n h
