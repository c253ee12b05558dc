-- Reading a whole file, by how it begins: what `read_cycle` and `stored_pairs` are where each test of them went one way, what is known where
-- they give pairs, and that more than 512 places change nothing. Assumes nothing.
use mathlib.Core.Path.{◌≡◌, refl, sym, ◌∙◌}
use Prim.Native.Nat.{ℕ, ◌≤◌, ◌<◌, min}
use native.Mathlib.Omega.{arith}
use mathlib.Core.Bool.{Bool, true, false}
use mathlib.Core.List.{List, []}
use lib.Dec.{ltb}
use lib.ListN.{length, drop}
use borrow.Author.Tests.{lt-ltb, le-ltb, ltb-true, ltb-false}
use Rattle.std.specs.Prelude.{None, Result, Ok, Err}
use Rattle.spec.specs.File.{word}
use Rattle.pairs.specs.declared.Pair.{Pair}
use Rattle.pairs.specs.Pairs.{count_in}
use Rattle.pairs.proofs.Counts.{count_in_true}
use Rattle.cyclefile.specs.File.{read_pairs, read_count, read_cycle, passed_pairs, stored_pairs, file_answer}
use Rattle.cyclefile.proofs.PairByPair.{length_read, passed_all}

module _ (places : ℕ) (file : List ℕ) where
  -- a file that is refused before its first pair: nothing is stored
  abbrev pub RefusedAtOnce : ℕ → Type 0
  RefusedAtOnce n = (read_cycle places file ≡ Err n) × (stored_pairs places file ≡ [])

  pub no_count : length file < 2 → RefusedAtOnce 18
  unfolding read_cycle stored_pairs read_count
  no_count h = rw (lt-ltb (length file) 2 h) (refl, refl)

  module _ (long : 2 ≤ length file) where
    pub bad_count : count_in (word file 0) ≡ false → RefusedAtOnce 12
    unfolding read_cycle stored_pairs read_count
    bad_count h = rw (le-ltb (length file) 2 long, h) (refl, refl)

    module _ (counted : count_in (word file 0) ≡ true) where
      pub few_places : places < word file 0 → RefusedAtOnce 20
      unfolding read_cycle stored_pairs read_count
      few_places h = rw (le-ltb (length file) 2 long, counted, lt-ltb places (word file 0) h) (refl, refl)

      pub pair_by_pair : word file 0 ≤ places → (read_cycle places file ≡ read_pairs (word file 0) None (drop 2 file)) × (stored_pairs places file ≡ passed_pairs (word file 0) None (drop 2 file))
      unfolding read_cycle stored_pairs read_count
      pair_by_pair h = rw (le-ltb (length file) 2 long, counted, le-ltb places (word file 0) h) (refl, refl)

-- how a file begins: one of the four
pub data Beginning (places : ℕ) (file : List ℕ) : Type 0 where
  cut : length file < 2 → Beginning places file
  miscounted : 2 ≤ length file → count_in (word file 0) ≡ false → Beginning places file
  crowded : 2 ≤ length file → count_in (word file 0) ≡ true → places < word file 0 → Beginning places file
  begun : 2 ≤ length file → count_in (word file 0) ≡ true → word file 0 ≤ places → Beginning places file

begins_by : (places : ℕ) (file : List ℕ) (short counted few : Bool) → ltb (length file) 2 ≡ short → count_in (word file 0) ≡ counted → ltb places (word file 0) ≡ few → Beginning places file
begins_by places file true counted few e₁ e₂ e₃ = cut (ltb-true _ _ e₁)
begins_by places file false false few e₁ e₂ e₃ = miscounted (ltb-false _ _ e₁) e₂
begins_by places file false true true e₁ e₂ e₃ = crowded (ltb-false _ _ e₁) e₂ (ltb-true _ _ e₃)
begins_by places file false true false e₁ e₂ e₃ = begun (ltb-false _ _ e₁) e₂ (ltb-false _ _ e₃)

pub begins : (places : ℕ) (file : List ℕ) → Beginning places file
begins places file = begins_by places file (ltb (length file) 2) (count_in (word file 0)) (ltb places (word file 0)) refl refl refl

-- ---- a file that reads as pairs

pub record WholeRead (places : ℕ) (file : List ℕ) (ps : List Pair) : Type 0 where
  pub long : 2 ≤ length file
  pub counted : count_in (word file 0) ≡ true
  pub room : word file 0 ≤ places
  pub reads : read_pairs (word file 0) None (drop 2 file) ≡ Ok ps

accepted_by : (places : ℕ) (file : List ℕ) (ps : List Pair) → read_cycle places file ≡ Ok ps → Beginning places file → WholeRead places file ps
accepted_by places file ps h (cut short) = let k = (no_count places file short).0 in cc
accepted_by places file ps h (miscounted long wrong) = let k = (bad_count places file long wrong).0 in cc
accepted_by places file ps h (crowded long right few) = let k = (few_places places file long right few).0 in cc
accepted_by places file ps h (begun long right room) = record { long = long; counted = right; room = room; reads = sym (pair_by_pair places file long right room).0 ∙ h }

pub accepted : (places : ℕ) (file : List ℕ) (ps : List Pair) → read_cycle places file ≡ Ok ps → WholeRead places file ps
accepted places file ps h = accepted_by places file ps h (begins places file)

-- whose pairs are all stored
pub stored_all : (places : ℕ) (file : List ℕ) (ps : List Pair) → read_cycle places file ≡ Ok ps → stored_pairs places file ≡ ps
stored_all places file ps h =
    let a = accepted places file ps h in
    (pair_by_pair places file a.long a.counted a.room).1 ∙ passed_all (word file 0) None (drop 2 file) ps a.reads

-- ---- what the answer tells

-- a count: so many pairs are the file's, and they are stored
pub record Counted (places : ℕ) (file : List ℕ) (n : ℕ) : Type 0 where
  pub ps : List Pair
  pub long : length ps ≡ n
  pub most : n ≤ 512
  pub reads : read_cycle places file ≡ Ok ps
  pub stores : stored_pairs places file ≡ ps

counted_by : (places : ℕ) (file : List ℕ) (n : ℕ) (r : Result (List Pair) ℕ) → read_cycle places file ≡ r → file_answer r ≡ Ok n → Counted places file n
counted_by places file n (Ok ps) e h =
    let a = accepted places file ps e in
    let l : length ps ≡ n = cc in
    let w : length ps ≡ word file 0 = length_read (word file 0) None (drop 2 file) ps a.reads in
    record {
      ps = ps;
      long = l;
      most = omega (arith, l, w, (count_in_true (word file 0) a.counted).1);
      reads = e;
      stores = stored_all places file ps e;
    }
counted_by places file n (Err m) e h = cc

pub counted : (places : ℕ) (file : List ℕ) (n : ℕ) → Ok n ≡ file_answer (read_cycle places file) → Counted places file n
counted places file n h = counted_by places file n (read_cycle places file) refl (sym h)

refused_by : (r : Result (List Pair) ℕ) (n : ℕ) → file_answer r ≡ Err n → r ≡ Err n
refused_by (Ok ps) n h = cc
refused_by (Err m) n h = cc

pub not_read : (places : ℕ) (file : List ℕ) (n : ℕ) → Err n ≡ file_answer (read_cycle places file) → read_cycle places file ≡ Err n
not_read places file n h = refused_by (read_cycle places file) n (sym h)

-- ---- more than 512 places change nothing, since no count is above 512

same_test : (places n : ℕ) → n ≤ 512 → (t : Bool) → ltb places n ≡ t → ltb (min places 512) n ≡ t
same_test places n h true e = lt-ltb (min places 512) n (let k = ltb-true places n e in omega arith)
same_test places n h false e = le-ltb (min places 512) n (let k = ltb-false places n e in omega arith)

places_by : (places : ℕ) (file : List ℕ) (short counted : Bool) → ltb (length file) 2 ≡ short → count_in (word file 0) ≡ counted → read_cycle (min places 512) file ≡ read_cycle places file
unfolding read_cycle read_count
places_by places file true counted e₁ e₂ = rw e₁
places_by places file false false e₁ e₂ = rw (e₁, e₂)
places_by places file false true e₁ e₂ = rw (same_test places (word file 0) (count_in_true (word file 0) e₂).1 (ltb places (word file 0)) refl)

pub places_512 : (places : ℕ) (file : List ℕ) → read_cycle (min places 512) file ≡ read_cycle places file
places_512 places file = places_by places file (ltb (length file) 2) (count_in (word file 0)) refl refl
