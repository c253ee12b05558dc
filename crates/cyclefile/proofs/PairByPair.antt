-- Laws of reading pair by pair: what is left reads as some pairs where one is taken and the rest reads as the others, and is refused where
-- the first is, or one is taken and the rest is refused. Assumes nothing.
use mathlib.Core.Path.{◌≡◌, refl, sym, ap, ◌∙◌}
use Prim.Native.Nat.{ℕ, zero, suc, ◌≤◌, zero-le}
use native.Mathlib.Omega.{arith}
use mathlib.Core.Bool.{Bool, true, false, cond}
use mathlib.Core.List.{List, [], ◌∷◌}
use lib.Dec.{eqb}
use lib.ListN.{length, drop}
use borrow.Author.Tests.{eqb-true, eqb-false, ne_eqb}
use Rattle.std.specs.Prelude.{Option, Some, Result, Ok, Err}
use Rattle.pairs.specs.declared.Pair.{Pair}
use Rattle.cyclefile.specs.declared.reading.steps.Taken.{Taken}
use Rattle.cyclefile.specs.File.{taken_pair, read_pair, after_read, with_first, read_pairs, passed_pairs}

-- a pair that is taken leaves the rest to decide, and one that is refused decides
module _ (before : Option Pair) (b : List ℕ) (k : ℕ) where
  pub taken_first : {p : Pair} {n : ℕ} → read_pair before b ≡ Ok (taken_pair p n) → read_pairs (suc k) before b ≡ with_first p (read_pairs k (Some p) (drop n b))
  unfolding read_pairs
  taken_first h = rw h

  pub stopped_first : {n : ℕ} → read_pair before b ≡ Err n → read_pairs (suc k) before b ≡ Err n
  unfolding read_pairs
  stopped_first h = rw h

pub record Split (before : Option Pair) (b : List ℕ) (k : ℕ) (ps : List Pair) : Type 0 where
  pub head : Pair
  pub taken : ℕ
  pub tail : List Pair
  pub ps_is : ps ≡ head ∷ tail
  pub head_read : read_pair before b ≡ Ok (taken_pair head taken)
  pub tail_read : read_pairs k (Some head) (drop taken b) ≡ Ok tail

split_rest : (before : Option Pair) (b : List ℕ) (k : ℕ) (ps : List Pair) (p : Pair) (n : ℕ) → read_pair before b ≡ Ok (taken_pair p n) → (rest : Result (List Pair) ℕ) → read_pairs k (Some p) (drop n b) ≡ rest → with_first p rest ≡ Ok ps → Split before b k ps
split_rest before b k ps p n h (Ok qs) e g = record { head = p; taken = n; tail = qs; ps_is = (cc); head_read = h; tail_read = e }
split_rest before b k ps p n h (Err m) e g = cc

split_by : (before : Option Pair) (b : List ℕ) (k : ℕ) (ps : List Pair) (r : Result Taken ℕ) → read_pair before b ≡ r → read_pairs (suc k) before b ≡ Ok ps → Split before b k ps
split_by before b k ps (Ok t) h g = split_rest before b k ps t.pair t.bytes h (read_pairs k (Some t.pair) (drop t.bytes b)) refl (sym (taken_first before b k h) ∙ g)
split_by before b k ps (Err m) h g = let y = sym (stopped_first before b k h) ∙ g in cc

pub split : (before : Option Pair) (b : List ℕ) (k : ℕ) (ps : List Pair) → read_pairs (suc k) before b ≡ Ok ps → Split before b k ps
split before b k ps h = split_by before b k ps (read_pair before b) refl h

-- no pair is left, and no byte over
ended_by : (ps : List Pair) (t : Bool) → cond {A = Result (List Pair) ℕ} t (Ok []) (Err 21) ≡ Ok ps → (t ≡ true) × (ps ≡ [])
ended_by ps true h = (refl, cc)
ended_by ps false h = cc

pub ended : (before : Option Pair) (b : List ℕ) (ps : List Pair) → read_pairs 0 before b ≡ Ok ps → (length b ≡ 0) × (ps ≡ [])
unfolding read_pairs
ended before b ps h = let e = ended_by ps (eqb (length b) 0) h in (eqb-true (length b) 0 e.0, e.1)

-- the first pair is refused, or it is taken and the rest is refused
pub data RefusedAt (before : Option Pair) (b : List ℕ) (k n : ℕ) : Type 0 where
  first : read_pair before b ≡ Err n → RefusedAt before b k n
  later : (p : Pair) (taken : ℕ) → read_pair before b ≡ Ok (taken_pair p taken) → read_pairs k (Some p) (drop taken b) ≡ Err n → RefusedAt before b k n

rest_refused : (p : Pair) (rest : Result (List Pair) ℕ) (n : ℕ) → with_first p rest ≡ Err n → rest ≡ Err n
rest_refused p (Ok ps) n h = cc
rest_refused p (Err m) n h = h

refused_by : (before : Option Pair) (b : List ℕ) (k n : ℕ) (r : Result Taken ℕ) → read_pair before b ≡ r → read_pairs (suc k) before b ≡ Err n → RefusedAt before b k n
refused_by before b k n (Ok t) e h = later t.pair t.bytes e (rest_refused t.pair (read_pairs k (Some t.pair) (drop t.bytes b)) n (sym (taken_first before b k e) ∙ h))
refused_by before b k n (Err m) e h = first (let y = sym (stopped_first before b k e) ∙ h in let z : m ≡ n = cc in rw z at e)

pub refused_at : (before : Option Pair) (b : List ℕ) (k n : ℕ) → read_pairs (suc k) before b ≡ Err n → RefusedAt before b k n
refused_at before b k n h = refused_by before b k n (read_pair before b) refl h

over_by : (n : ℕ) (t : Bool) → cond {A = Result (List Pair) ℕ} t (Ok []) (Err 21) ≡ Err n → (t ≡ false) × (n ≡ 21)
over_by n true h = cc
over_by n false h = (refl, cc)

-- no pair is left, and bytes are
pub refused_left : (before : Option Pair) (b : List ℕ) (n : ℕ) → read_pairs 0 before b ≡ Err n → (length b ≡ 0 → ⊥) × (n ≡ 21)
unfolding read_pairs
refused_left before b n h = let e = over_by n (eqb (length b) 0) h in (eqb-false (length b) 0 e.0, e.1)

pub left_refused : (before : Option Pair) (b : List ℕ) → (length b ≡ 0 → ⊥) → read_pairs 0 before b ≡ Err 21
unfolding read_pairs
left_refused before b h = rw (ne_eqb (length b) 0 h)

pub length_read : (n : ℕ) (before : Option Pair) (b : List ℕ) (ps : List Pair) → read_pairs n before b ≡ Ok ps → length ps ≡ n
length_read zero before b ps h = ap length (ended before b ps h).1
length_read (suc n) before b ps h = let s = split before b n ps h in ap length s.ps_is ∙ ap suc (length_read n (Some s.head) (drop s.taken b) s.tail s.tail_read)

-- where all are read, all are passed
pub passed_all : (n : ℕ) (before : Option Pair) (b : List ℕ) (ps : List Pair) → read_pairs n before b ≡ Ok ps → passed_pairs n before b ≡ ps
unfolding passed_pairs
passed_all zero before b ps h = sym (ended before b ps h).1
passed_all (suc n) before b ps h =
    let s = split before b n ps h in
    rw (s.head_read, passed_all n (Some s.head) (drop s.taken b) s.tail s.tail_read) (sym s.ps_is)

few_by : (n : ℕ) (r : Result Taken ℕ) (rest : Taken → List Pair) → ((t : Taken) → length (rest t) ≤ n) → length (after_read r (λ (m : ℕ). []) (λ (t : Taken). t.pair ∷ rest t)) ≤ suc n
few_by n (Ok t) rest h = let k = h t in omega arith
few_by n (Err m) rest h = zero-le

pub passed_few : (n : ℕ) (before : Option Pair) (b : List ℕ) → length (passed_pairs n before b) ≤ n
unfolding passed_pairs
passed_few zero before b = zero-le
passed_few (suc n) before b = few_by n (read_pair before b) (λ (t : Taken). passed_pairs n (Some t.pair) (drop t.bytes b)) (λ t. passed_few n (Some t.pair) (drop t.bytes b))
