-- What `read` tells a caller that lends it an array of 1,024 words: the file reads as the pairs in front of the words, or is refused, for
-- as many places as were asked for. Assumes nothing.
use mathlib.Core.Path.{◌≡◌, sym, ap, ◌∙◌}
use Prim.Native.Nat.{ℕ, ◌*◌, ◌/◌, ◌≤◌, min}
use native.Mathlib.Omega.{arith}
use mathlib.Core.List.{List}
use lib.ListN.{length, take, length-take}
use lib.Seq.{take_at}
use Rattle.std.specs.Prelude.{Ok, Err}
use Rattle.pairs.specs.declared.Pair.{Pair}
use Rattle.pairs.specs.Pairs.{flatten, laid_over}
use Rattle.pairs.proofs.FlatLists.{length_flatten}
use Rattle.cyclefile.specs.File.{read_cycle, stored_pairs, file_answer}
use Rattle.cyclefile.proofs.WholeFile.{counted, not_read, places_512}

-- n pairs were read, and stand in front of the words
pub record FrontPairs (places : ℕ) (file words : List ℕ) (n : ℕ) : Type 0 where
  pub ps : List Pair
  pub long : length ps ≡ n
  pub most : n ≤ 512
  pub reads : read_cycle places file ≡ Ok ps
  pub front : take (2 * n) words ≡ flatten ps

-- so there are as many words
pub within : {places : ℕ} {file words : List ℕ} {n : ℕ} → FrontPairs places file words n → 2 * n ≤ length words
within {places} {file} {words} {n} f = omega (arith, ap length f.front, length-take (2 * n) words, length_flatten f.ps, f.long)

module _ (places : ℕ) (file old : List ℕ) (array : length old ≡ 1024) where
  pub array_places : read_cycle (min places (length old / 2)) file ≡ read_cycle places file
  array_places = rw array (places_512 places file)

  pub words_read : {words : List ℕ} {n : ℕ} → Ok n ≡ file_answer (read_cycle (min places (length old / 2)) file) → words ≡ laid_over (flatten (stored_pairs (min places (length old / 2)) file)) old → FrontPairs places file words n
  words_read {words} {n} h w =
      let k = counted (min places (length old / 2)) file n h in
      record {
        ps = k.ps;
        long = k.long;
        most = k.most;
        reads = sym array_places ∙ k.reads;
        front = ap (take (2 * n)) (w ∙ ap (λ (qs : List Pair). laid_over (flatten qs) old) k.stores) ∙ take_at (flatten k.ps) _ (2 * n) (length_flatten k.ps ∙ ap (λ (m : ℕ). 2 * m) k.long);
      }

  pub words_refused : {n : ℕ} → Err n ≡ file_answer (read_cycle (min places (length old / 2)) file) → read_cycle places file ≡ Err n
  words_refused {n} h = sym array_places ∙ not_read (min places (length old / 2)) file n h
