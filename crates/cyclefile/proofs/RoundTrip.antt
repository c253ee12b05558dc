-- The two theorems of the cycle file. Both go pair by pair: the bytes of a pair are read as that pair, and the bytes that a pair was read from are
-- its bytes, since a field that was read stands exactly when it differs from the one before. Assumes nothing.
use mathlib.Core.Path.{◌≡◌, refl, sym, ap, ◌∙◌}
use Prim.Native.Nat.{ℕ, zero, suc, ◌+◌, ◌*◌, ◌/◌, ◌%◌, ◌≤◌, ◌<◌}
use native.Mathlib.Nat.{zero-add}
use native.Mathlib.Numerals.{add-one}
use native.Mathlib.Omega.{arith}
use mathlib.Core.Bool.{Bool, true, false, cond}
use mathlib.Core.List.{List, [], ◌∷◌, ◌++◌}
use lib.Dec.{ltb}
use lib.ListN.{length, get_or, take, drop, length-append, take-append-drop}
use lib.Seq.{drop-append_seam, drop-cons, take-add, get_or-drop}
use borrow.Author.Tests.{eqb-true, not-false, le-leb}
use Rattle.std.specs.Prelude.{Option, None, Some, Ok}
use Rattle.pairs.specs.declared.Pair.{Pair}
use Rattle.spec.specs.File.{word}
use Rattle.cyclefile.specs.File.{AreBytes, read_cycle, last_pair, stands, gap_stands, size_stands, map_byte, bytes_of, field_bytes, pair_bytes, pairs_bytes, cycle_bytes, has_gap, has_size, map_is_wrong, field_length, bytes_taken, pair_at, stands_in_vain, read_pair, read_pairs, taken_pair}
use Rattle.pairs.proofs.Counts.{count_in_true}
use Rattle.cyclefile.proofs.Maps.{map_again, map_told, in_vain_by_map}
use Rattle.cyclefile.proofs.OnePair.{took}
use Rattle.cyclefile.proofs.OnePair as one
use Rattle.cyclefile.proofs.PairByPair.{split, ended, length_read}
use Rattle.cyclefile.proofs.WholeFile.{accepted}
use Rattle.cyclefile.proofs.WholeFile as whole
use Rattle.cyclefile.proofs.Fields.{length_pair_bytes}

-- ---- what is written can be read

-- 2 bytes, and the number that they are
pub joined : (n : ℕ) → n / 256 * 256 + n % 256 ≡ n
joined n = omega arith

-- the bits of a map byte that is written
has_gap_lem : (g s : Bool) → has_gap (map_byte g s) ≡ g
has_gap_lem true true = refl
has_gap_lem true false = refl
has_gap_lem false true = refl
has_gap_lem false false = refl

has_size_lem : (g s : Bool) → has_size (map_byte g s) ≡ s
has_size_lem true true = refl
has_size_lem true false = refl
has_size_lem false true = refl
has_size_lem false false = refl

no_more_bits : (g s : Bool) → ltb 3 (map_byte g s) ≡ false
no_more_bits true true = refl
no_more_bits true false = refl
no_more_bits false true = refl
no_more_bits false false = refl

-- a field that is left out equals the one before
left_out : (before : Option Pair) (field : Pair → ℕ) (p : Pair) → stands before field p ≡ false → field (last_pair before) ≡ field p
left_out None field p e = absurd (let z : ◌≡◌ {A = Bool} true false = e in let y : ◌≡◌ {A = ℕ} 0 1 = cc in omega arith)
left_out (Some q) field p e = sym (eqb-true (field p) (field q) (not-false _ e))

-- a first pair has both bits, and no pair has more
map_right : (before : Option Pair) (p : Pair) (g s : Bool) → gap_stands before p ≡ g → size_stands before p ≡ s → map_is_wrong before (map_byte g s) ≡ false
map_right None p g s e f = rw (← e, ← f)
map_right (Some q) p g s e f = no_more_bits g s

same_pair : (p : Pair) (g s : ℕ) → g ≡ p.gap → s ≡ p.size → record { gap = g; size = s } ≡ p
same_pair p g s e f = ap (λ (k : ℕ). record { gap = k; size = s }) e ∙ ap (λ (k : ℕ). record { gap = p.gap; size = k }) f

module _ (before : Option Pair) (p : Pair) (rest : List ℕ) where
  -- the bytes of a pair of which g and s say what stands, and what follows them
  abbrev bytes_and : Bool → Bool → List ℕ
  bytes_and g s = map_byte g s ∷ ((field_bytes g p.gap ++ field_bytes s p.size) ++ rest)

  pair_back : (g s : Bool) → gap_stands before p ≡ g → size_stands before p ≡ s → pair_at (last_pair before) (bytes_and g s) ≡ p
  pair_back true true e f = same_pair p _ _ (joined p.gap) (joined p.size)
  pair_back true false e f = same_pair p _ _ (joined p.gap) (left_out before (λ (q : Pair). q.size) p f)
  pair_back false true e f = same_pair p _ _ (left_out before (λ (q : Pair). q.gap) p e) (joined p.size)
  pair_back false false e f = same_pair p _ _ (left_out before (λ (q : Pair). q.gap) p e) (left_out before (λ (q : Pair). q.size) p f)

  none_in_vain : (g s : Bool) → gap_stands before p ≡ g → size_stands before p ≡ s → stands_in_vain before (map_byte g s) p ≡ false
  none_in_vain true true e f = rw (e, f)
  none_in_vain true false e f = rw e
  none_in_vain false true e f = rw f
  none_in_vain false false e f = refl

  pair_read : read_pair before (pair_bytes before p ++ rest) ≡ Ok (taken_pair p (length (pair_bytes before p)))
  unfolding pair_bytes
  pair_read =
      let g = gap_stands before p in
      let s = size_stands before p in
      let back = pair_back g s refl refl in
      let taken : bytes_taken (map_byte g s) ≡ length (pair_bytes before p) = rw (has_gap_lem g s, has_size_lem g s, length_pair_bytes) in
      one.taken before (bytes_and g s) (λ z. omega arith) (map_right before p g s refl refl) (omega (arith, taken, length-append (pair_bytes before p) rest)) (rw back (none_in_vain g s refl refl)) ∙ rw (back, taken)

-- the pairs of a cycle, and nothing behind them
pairs_read : (before : Option Pair) (ps : List Pair) → read_pairs (length ps) before (pairs_bytes before ps) ≡ Ok ps
unfolding read_pairs pairs_bytes
pairs_read before [] = refl
pairs_read before (p ∷ ps) = rw (pair_read before p (pairs_bytes (Some p) ps), drop-append_seam, pairs_read (Some p) ps)

-- the file of every cycle of 1 to 512 pairs reads as that cycle, where the lent list has the places
pub reads_back : (places : ℕ) (ps : List Pair) → 1 ≤ length ps → length ps ≤ 512 → length ps ≤ places → read_cycle places (cycle_bytes ps) ≡ Ok ps
unfolding cycle_bytes
reads_back places ps some most room =
    let n : word (cycle_bytes ps) 0 ≡ length ps = joined (length ps) in
    (whole.pair_by_pair places (cycle_bytes ps) (omega arith) (rw (n, le-leb 1 (length ps) some, le-leb (length ps) 512 most)) (rw n room)).0 ∙ rw n (pairs_read None ps)

-- ---- what is read was written so

-- the number of 2 bytes, and those bytes
apart : (h l : ℕ) → l < 256 → bytes_of (h * 256 + l) ≡ h ∷ l ∷ []
apart h l b = let e : (h * 256 + l) / 256 ≡ h = omega arith in let f : (h * 256 + l) % 256 ≡ l = omega arith in rw (e, f)

-- a field that stands in a file is its 2 bytes there
pub field_kept : (t : Bool) (b : List ℕ) (k : ℕ) → AreBytes b → k + field_length t ≤ length b → take (field_length t) (drop k b) ≡ field_bytes t (word b k)
field_kept true b k small long = rw (drop-cons b k 0 (omega arith), drop-cons b (suc k) 0 (omega arith), add-one k) (sym (apart (get_or b k 0) (get_or b (suc k) 0) (small (suc k))))
field_kept false b k small long = refl

field_same : (t : Bool) (n m : ℕ) → field_bytes t (cond t n m) ≡ field_bytes t n
field_same true n m = refl
field_same false n m = refl

no_bytes : (b : List ℕ) → length b ≡ 0 → b ≡ []
no_bytes [] e = refl
no_bytes (x ∷ b) e = absurd (omega arith)

first_byte : (b : List ℕ) → 1 ≤ length b → take 1 b ≡ get_or b 0 0 ∷ []
first_byte [] h = absurd (omega arith)
first_byte (m ∷ b) h = refl

bytes_kept : (b : List ℕ) (g s : Bool) → AreBytes b → 1 + field_length g + field_length s ≤ length b
    → get_or b 0 0 ∷ (field_bytes g (word b 1) ++ field_bytes s (word b (1 + field_length g))) ≡ take (1 + field_length g + field_length s) b
bytes_kept b g s small long =
    sym (take-add (1 + field_length g) (field_length s) b
    ∙ ap (λ (l : List ℕ). l ++ take (field_length s) (drop (1 + field_length g) b)) (take-add 1 (field_length g) b)
    ∙ ap (λ (l : List ℕ). (l ++ take (field_length g) (drop 1 b)) ++ take (field_length s) (drop (1 + field_length g) b)) (first_byte b (omega arith))
    ∙ ap (λ (l : List ℕ). get_or b 0 0 ∷ (l ++ take (field_length s) (drop (1 + field_length g) b))) (field_kept g b 1 small (omega arith))
    ∙ ap (λ (l : List ℕ). get_or b 0 0 ∷ (field_bytes g (word b 1) ++ l)) (field_kept s b (1 + field_length g) small long))

pair_kept : (before : Option Pair) (b : List ℕ) (p : Pair) (n : ℕ) → AreBytes b → read_pair before b ≡ Ok (taken_pair p n) → pair_bytes before p ++ drop n b ≡ b
unfolding pair_bytes
pair_kept before b p n small h =
    let t = took before b p n h in
    let m = get_or b 0 0 in
    let q = pair_at (last_pair before) b in
    -- the map is the one that the pair is written with, as no field stands in vain
    let written : m ≡ map_byte (gap_stands before q) (size_stands before q) = eqb-true _ _ (not-false _ (sym (in_vain_by_map before b t.right) ∙ t.none_in_vain)) in
    let gap : gap_stands before q ≡ has_gap m = sym (ap has_gap written ∙ has_gap_lem (gap_stands before q) (size_stands before q)) in
    let size : size_stands before q ≡ has_size m = sym (ap has_size written ∙ has_size_lem (gap_stands before q) (size_stands before q)) in
    let bytes : pair_bytes before q ≡ take (bytes_taken m) b =
    ap (λ (t : Bool). map_byte t (size_stands before q) ∷ (field_bytes t q.gap ++ field_bytes (size_stands before q) q.size)) gap
    ∙ ap (λ (t : Bool). map_byte (has_gap m) t ∷ (field_bytes (has_gap m) q.gap ++ field_bytes t q.size)) size
    ∙ ap (λ (k : ℕ). k ∷ (field_bytes (has_gap m) q.gap ++ field_bytes (has_size m) q.size)) (map_again m (map_told before m t.right).0)
    ∙ ap (λ (l : List ℕ). m ∷ (l ++ field_bytes (has_size m) q.size)) (field_same (has_gap m) (word b 1) (last_pair before).gap)
    ∙ ap (λ (l : List ℕ). m ∷ (field_bytes (has_gap m) (word b 1) ++ l)) (field_same (has_size m) (word b (1 + field_length (has_gap m))) (last_pair before).size)
    ∙ bytes_kept b (has_gap m) (has_size m) small t.long in
    ap (λ (r : Pair). pair_bytes before r ++ drop n b) t.pair_is ∙ ap (λ (l : List ℕ). l ++ drop n b) bytes ∙ ap (λ (k : ℕ). take k b ++ drop n b) (sym t.taken_is) ∙ take-append-drop n b

pairs_kept : (k : ℕ) (before : Option Pair) (b : List ℕ) (ps : List Pair) → AreBytes b → read_pairs k before b ≡ Ok ps → pairs_bytes before ps ≡ b
unfolding pairs_bytes
pairs_kept zero before b ps small h = let e = ended before b ps h in rw e.1 (sym (no_bytes b e.0))
pairs_kept (suc k) before b ps small h =
    let s = split before b k ps h in
    let rest : pairs_bytes (Some s.head) s.tail ≡ drop s.taken b = pairs_kept k (Some s.head) (drop s.taken b) s.tail (λ i. rw get_or-drop (small (s.taken + i))) s.tail_read in
    ap (pairs_bytes before) s.ps_is ∙ ap (λ (l : List ℕ). pair_bytes before s.head ++ l) rest ∙ pair_kept before b s.head s.taken small s.head_read

-- a file that reads as a cycle is that cycle's file, so no two files read as one cycle
pub writes_back : (places : ℕ) (file : List ℕ) (ps : List Pair) → AreBytes file → read_cycle places file ≡ Ok ps → cycle_bytes ps ≡ file
unfolding cycle_bytes
writes_back places file ps small h =
    let a = accepted places file ps h in
    let n : length ps ≡ word file 0 = length_read (word file 0) None (drop 2 file) ps a.reads in
    ap (λ (k : ℕ). bytes_of k ++ pairs_bytes None ps) n
    ∙ ap (λ (l : List ℕ). bytes_of (word file 0) ++ l) (pairs_kept (word file 0) None (drop 2 file) ps (λ i. rw get_or-drop (small (2 + i))) a.reads)
    ∙ ap (λ (l : List ℕ). l ++ drop 2 file) (sym (field_kept true file 0 small (rw zero-add a.long)))
    ∙ take-append-drop 2 file

-- what is read is a cycle, and has its places
pub reads_cycles : (places : ℕ) (file : List ℕ) (ps : List Pair) → read_cycle places file ≡ Ok ps → (1 ≤ length ps) × (length ps ≤ 512) × (length ps ≤ places)
reads_cycles places file ps h =
    let a = accepted places file ps h in
    let c = count_in_true (word file 0) a.counted in
    let n : length ps ≡ word file 0 = length_read (word file 0) None (drop 2 file) ps a.reads in
    rw n (c.0, c.1, a.room)
