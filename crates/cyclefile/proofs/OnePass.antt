-- Laws of reading in one pass: where i pairs are stored in the words, what is left of the file decides the answer and the words at the
-- end (`pass_from`). A step stores its pair and leaves the rest to decide, or stops and decides. Assumes nothing.
use mathlib.Core.Path.{◌≡◌, refl, ap, ◌∙◌}
use Prim.Native.Nat.{ℕ, suc, ◌+◌, ◌-◌, ◌*◌, ◌≤◌}
use native.Mathlib.Nat.{zero-add, add-zero}
use native.Mathlib.Omega.{arith}
use mathlib.Core.List.{List, [], ◌∷◌, ◌++◌, append-nil, append_assoc}
use lib.Dec.{eqb}
use lib.ListN.{length, set, take, drop, length-append, length-drop}
use lib.Seq.{take-length}
use mathlib.Core.Bool.{true, false}
use Rattle.std.specs.Prelude.{Option, Some, Result, Ok, Err}
use Rattle.pairs.specs.declared.Pair.{Pair}
use Rattle.pairs.specs.Pairs.{flatten, laid_over}
use Rattle.pairs.proofs.LaidOver.{laid_over_pair}
use Rattle.cyclefile.specs.declared.reading.steps.Taken.{Taken}
use Rattle.cyclefile.specs.File.{with_first, read_pair, read_pairs, passed_pairs, file_answer}
use Rattle.cyclefile.proofs.PairByPair.{passed_few}

-- a pair stored as its two numbers, and pairs stored from pair i on
abbrev put : ℕ → Pair → List ℕ → List ℕ
put i p words = set (set words (2 * i) p.gap) (2 * i + 1) p.size

abbrev stored : ℕ → List Pair → List ℕ → List ℕ
stored i [] words = words
stored i (p ∷ ps) words = stored (i + 1) ps (put i p words)

stored_over : (ps qs : List Pair) (old : List ℕ) (i : ℕ) → length qs ≡ i → 2 * (i + length ps) ≤ length old → stored i ps (laid_over (flatten qs) old) ≡ laid_over (flatten (qs ++ ps)) old
stored_over [] qs old i e h = rw append-nil
stored_over (p ∷ ps) qs old i e h =
    ap (stored (i + 1) ps) (laid_over_pair qs old p i e (omega arith))
    ∙ stored_over ps (qs ++ (p ∷ [])) old (i + 1) (length-append qs (p ∷ []) ∙ ap (λ (k : ℕ). k + 1) e) (omega arith)
    ∙ ap (λ (l : List Pair). laid_over (flatten l) old) (append_assoc qs (p ∷ []) ps)

-- the answer where i pairs are stored and the rest reads so
abbrev pub answer_from : ℕ → Result (List Pair) ℕ → Result ℕ ℕ
answer_from i (Ok ps) = Ok (i + length ps)
answer_from i (Err n) = Err n

pub answer_whole : (r : Result (List Pair) ℕ) → answer_from 0 r ≡ file_answer r
answer_whole (Ok ps) = ap Ok (zero-add (length ps))
answer_whole (Err n) = refl

answer_first : (i : ℕ) (p : Pair) (r : Result (List Pair) ℕ) → answer_from i (with_first p r) ≡ answer_from (i + 1) r
answer_first i p (Ok ps) = let e : i + suc (length ps) ≡ i + 1 + length ps = omega arith in ap Ok e
answer_first i p (Err n) = refl

-- how a step decides the answer: a pair that is taken leaves it to the rest, and each stop gives it
module _ (i : ℕ) (before : Option Pair) (b : List ℕ) where
  pub answer_pair : (k : ℕ) (t : Taken) → read_pair before b ≡ Ok t → answer_from i (read_pairs (suc k) before b) ≡ answer_from (i + 1) (read_pairs k (Some t.pair) (drop t.bytes b))
  unfolding read_pairs
  answer_pair k t h = rw h (answer_first i t.pair (read_pairs k (Some t.pair) (drop t.bytes b)))

  pub answer_stop : (k n : ℕ) → read_pair before b ≡ Err n → answer_from i (read_pairs (suc k) before b) ≡ Err n
  unfolding read_pairs
  answer_stop k n h = rw h

  pub answer_end : eqb (length b) 0 ≡ true → answer_from i (read_pairs 0 before b) ≡ Ok i
  unfolding read_pairs
  answer_end e = rw (e, add-zero)

  pub answer_over : eqb (length b) 0 ≡ false → answer_from i (read_pairs 0 before b) ≡ Err 21
  unfolding read_pairs
  answer_over e = rw e

-- the answer and the words at the end
abbrev pub Outcome : Type 0
Outcome = Result ℕ ℕ × List ℕ

-- where i pairs are stored in the words, and n are left, of which the first stands at the front of b
abbrev pub pass_from : List ℕ → ℕ → ℕ → Option Pair → List ℕ → Outcome
pass_from words i n before b = (answer_from i (read_pairs n before b), stored i (passed_pairs n before b) words)

pass_whole : (words : List ℕ) (n : ℕ) (before : Option Pair) (b : List ℕ) → 2 * n ≤ length words → pass_from words 0 n before b ≡ (file_answer (read_pairs n before b), laid_over (flatten (passed_pairs n before b)) words)
pass_whole words n before b h =
    ap (λ (a : Result ℕ ℕ). (a, stored 0 (passed_pairs n before b) words)) (answer_whole (read_pairs n before b))
    ∙ ap (λ (l : List ℕ). (file_answer (read_pairs n before b), l)) (stored_over (passed_pairs n before b) [] words 0 refl (omega (arith, passed_few n before b)))

-- so the outcome from the first pair on is the answer of the whole and the words that it leaves
pub whole_outcome : (words : List ℕ) (n : ℕ) (before : Option Pair) (b : List ℕ) {a : Result ℕ ℕ} {l : List ℕ} → 2 * n ≤ length words → ◌≡◌ {A = Outcome} (a, l) (pass_from words 0 n before b)
    → record { answer : a ≡ file_answer (read_pairs n before b); stored : l ≡ laid_over (flatten (passed_pairs n before b)) words }
whole_outcome words n before b h e =
    let w = e ∙ pass_whole words n before b h in
    record { answer = ap (λ (x : Outcome). x.0) w; stored = ap (λ (x : Outcome). x.1) w }

module _ (words : List ℕ) (i : ℕ) (before : Option Pair) (b : List ℕ) where
  pub pass_pair : (k : ℕ) (t : Taken) → read_pair before b ≡ Ok t → pass_from words i (suc k) before b ≡ pass_from (put i t.pair words) (i + 1) k (Some t.pair) (drop t.bytes b)
  unfolding passed_pairs
  pass_pair k t h = rw (answer_pair i before b k t h, h)

  pub pass_stop : (k n : ℕ) → read_pair before b ≡ Err n → pass_from words i (suc k) before b ≡ (Err n, words)
  unfolding passed_pairs
  pass_stop k n h = rw (answer_stop i before b k n h, h)

  pub pass_end : eqb (length b) 0 ≡ true → pass_from words i 0 before b ≡ (Ok i, words)
  unfolding passed_pairs
  pass_end e = rw (answer_end i before b e)

  pub pass_over : eqb (length b) 0 ≡ false → pass_from words i 0 before b ≡ (Err 21, words)
  unfolding passed_pairs
  pass_over e = rw (answer_over i before b e)

-- what is left behind a pair that is taken
pub left_behind : (n : ℕ) (b : List ℕ) → take (length b - n) (drop n b) ≡ drop n b
left_behind n b = rw (← length-drop n b, take-length)
