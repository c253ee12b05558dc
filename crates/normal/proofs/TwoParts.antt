-- The pairs of at most one round of reports, from report `start` on, are two parts of the list: those up to its end, and then the first ones. And a
-- list in which one part is stored behind the other.
use Prim.Native.Nat.{ℕ, ◌+◌, ◌-◌, ◌≤◌, ◌<◌, min}
use native.Mathlib.Omega.{arith}
use mathlib.Core.Path.{◌≡◌, sym, ◌∙◌, ap}
use mathlib.Core.Logic.{⊎_elim}
use mathlib.Core.List.{List, ◌++◌, append_assoc}
use lib.ListN.{length, get_or, take, drop, length-append}
use borrow.Rule.Slice.PartMut.{post_of}
use Rattle.std.proofs.lemmas.List.{get_or-take, get_or-drop, get_or_append_left, get_or-append_right, ext_get_or, length-take-le, length-drop, take_at, drop-drop}
use Rattle.std.proofs.lemmas.Slice.{drop-append-drop}
use Rattle.numbers.proofs.Cases.{lt_cases}
use Rattle.pairs.specs.declared.Pair.{Pair}
use Rattle.pairs.specs.Pairs.{no_pair, laid_over}
use Rattle.cycle.proofs.Runs.{first_turn, second_turn}
use Rattle.normal.specs.Normal.{pair_of, row}
use Rattle.normal.proofs.Periods.{pair_place}
use Rattle.normal.proofs.Turns.{row_length, row_at}

module _ (ps : List Pair) (start n m : ℕ) (inside : start ≤ length ps) (few : n ≤ length ps) (front : m ≡ min n (length ps - start)) where
  here_length : length (take m (drop start ps)) ≡ m
  here_length = length-take-le m (drop start ps) (omega (arith, length-drop start ps))

  next_length : length (take (n - m) ps) ≡ n - m
  next_length = length-take-le (n - m) ps (omega arith)

  row_parts : take m (drop start ps) ++ take (n - m) ps ≡ row ps start n
  row_parts =
      ext_get_or no_pair (take m (drop start ps) ++ take (n - m) ps) (row ps start n) (long ∙ sym (row_length ps start n))
      (λ i h. let k : i < n = omega (arith, long) in ⊎_elim (first i k) (second i k) (lt_cases i m) ∙ sym (row_at ps start n i k))
    where
      long : length (take m (drop start ps) ++ take (n - m) ps) ≡ n
      long = length-append (take m (drop start ps)) (take (n - m) ps) ∙ omega (arith, here_length, next_length)

      first : (i : ℕ) → i < n → i < m → get_or (take m (drop start ps) ++ take (n - m) ps) i no_pair ≡ pair_of ps (start + i)
      first i k h =
          get_or_append_left (take m (drop start ps)) (take (n - m) ps) no_pair i (omega (arith, here_length))
          ∙ get_or-take m (drop start ps) i no_pair h
          ∙ get_or-drop start ps i no_pair
          ∙ ap (λ (j : ℕ). get_or ps j no_pair) (sym (first_turn (start + i) (length ps) (omega arith)))
          ∙ sym (pair_place ps (start + i))

      second : (i : ℕ) → i < n → m ≤ i → get_or (take m (drop start ps) ++ take (n - m) ps) i no_pair ≡ pair_of ps (start + i)
      second i k h =
          let z : i - m ≡ start + i - length ps = omega arith in
          get_or-append_right (take m (drop start ps)) (take (n - m) ps) m i no_pair here_length h
          ∙ get_or-take (n - m) ps (i - m) no_pair (omega arith)
          ∙ ap (λ (j : ℕ). get_or ps j no_pair) (z ∙ sym (second_turn (start + i) (length ps) (omega arith) (omega arith)))
          ∙ sym (pair_place ps (start + i))

  -- stored as the code stores them
  pub two_parts : (a b old : List Pair) → a ≡ take (start + m - start) (drop start ps) → b ≡ take (n - m) ps
      → take m (a ++ drop m old) ++ (b ++ post_of m (n - m) (a ++ drop m old)) ≡ laid_over (row ps start n) old
  two_parts a b old ea eb =
      let e : start + m - start ≡ m = omega arith in
      let a_is : a ≡ take m (drop start ps) = ea ∙ ap (λ (k : ℕ). take k (drop start ps)) e in
      let la : length a ≡ m = ap length a_is ∙ here_length in
      let z : m + (n - m) ≡ n = omega arith in
      let rest : post_of m (n - m) (a ++ drop m old) ≡ drop n old =
      drop-drop (n - m) m (a ++ drop m old) ∙ ap (λ (k : ℕ). drop k (a ++ drop m old)) z ∙ drop-append-drop m old a n (omega arith) la in
      let stored : a ++ b ≡ row ps start n = rw (a_is, eb) row_parts in
      rw (take_at a (drop m old) m la, rest, ← append_assoc a b (drop n old), stored, row_length ps start n)
