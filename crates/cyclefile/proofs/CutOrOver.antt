-- A cycle file cut off, and one with bytes behind it (document 02, Req 01). Reading goes from the front, and a pair is judged by its own
-- bytes: so bytes that follow change no answer but 18, which says that some are missing. Where they follow a whole file they give 21; and
-- a file that is read, cut anywhere, stops at the first byte that is missing. Assumes nothing.
use mathlib.Core.Path.{◌≡◌, refl, sym, ap, ◌∙◌}
use Prim.Native.Nat.{ℕ, zero, suc, ◌+◌, ◌-◌, ◌≤◌, ◌<◌}
use native.Mathlib.Omega.{arith}
use native.Mathlib.Decide.{dec_lt}
use mathlib.Core.Bool.{Bool, true, false, cond}
use mathlib.Core.List.{List, [], ◌∷◌, ◌++◌, append_assoc}
use lib.Dec.{ltb, eqb}
use lib.ListN.{length, get_or, take, drop, length-append, length-drop, take-append-drop, get_or-append}
use lib.Seq.{length-take-le, drop-append-le, take-add, drop_at, get_or-take}
use borrow.Author.Tests.{eqb-true, eqb-false, ltb-true, ltb-false, ne_eqb, le-ltb}
use Rattle.std.specs.Prelude.{Option, None, Some, Ok, Err}
use Rattle.spec.specs.File.{word}
use Rattle.pairs.specs.declared.Pair.{Pair}
use Rattle.pairs.specs.Pairs.{count_in}
use Rattle.cyclefile.specs.File.{taken_pair, has_gap, has_size, map_is_wrong, field_length, bytes_taken, last_pair, pair_at, with_first, read_pair, read_pairs, read_cycle}
use Rattle.cyclefile.proofs.OnePair.{took, taken_some, taken_within, stopped_number}
use Rattle.cyclefile.proofs.OnePair as one
use Rattle.cyclefile.proofs.PairByPair.{taken_first, stopped_first, split, ended, first, later, refused_at, refused_left, left_refused}
use Rattle.cyclefile.proofs.WholeFile.{Beginning, cut, miscounted, crowded, begun, begins, accepted, no_count, bad_count, few_places, pair_by_pair}

-- ---- a pair is judged by its own bytes

-- a 2-byte number in the front of a file, and a field there
word_front : (a more : List ℕ) (i : ℕ) → i + 1 < length a → word (a ++ more) i ≡ word a i
word_front a more i h = rw (get_or-append a more 0 i (omega arith), get_or-append a more 0 (i + 1) h)

field_front : (a more : List ℕ) (t : Bool) (i n : ℕ) → i + field_length t ≤ length a → cond t (word (a ++ more) i) n ≡ cond t (word a i) n
field_front a more true i n h = word_front a more i (omega arith)
field_front a more false i n h = refl

module _ (before : Option Pair) (a more : List ℕ) where
  abbrev m : ℕ
  m = get_or a 0 0

  map_front : (length a ≡ 0 → ⊥) → get_or (a ++ more) 0 0 ≡ m
  map_front some = get_or-append a more 0 0 (omega arith)

  pair_front : bytes_taken m ≤ length a → pair_at (last_pair before) (a ++ more) ≡ pair_at (last_pair before) a
  pair_front long =
      rw (map_front (λ z. omega arith), field_front a more (has_gap m) 1 (last_pair before).gap (omega arith), field_front a more (has_size m) (1 + field_length (has_gap m)) (last_pair before).size (omega arith))

  whole_pair : bytes_taken m ≤ length a → read_pair before (a ++ more) ≡ read_pair before a
  unfolding read_pair
  whole_pair long =
      let n = length-append a more in
      rw (pair_front long, map_front (λ z. omega arith), ne_eqb (length (a ++ more)) 0 (λ z. omega arith), ne_eqb (length a) 0 (λ z. omega arith), le-ltb (length (a ++ more)) (bytes_taken m) (omega arith), le-ltb (length a) (bytes_taken m) long)

  -- so bytes that follow change nothing, unless some were missing
  same_by : (empty wrong short : Bool) → eqb (length a) 0 ≡ empty → map_is_wrong before m ≡ wrong → ltb (length a) (bytes_taken m) ≡ short
      → (read_pair before a ≡ Err 18 → ⊥) → read_pair before (a ++ more) ≡ read_pair before a
  same_by true wrong short e₁ e₂ e₃ h = absurd (h (one.no_map before a (eqb-true _ _ e₁)))
  same_by false true short e₁ e₂ e₃ h =
      let some = eqb-false _ _ e₁ in
      let n = length-append a more in
      one.wrong_map before (a ++ more) (λ z. some (omega arith)) (rw (map_front some) e₂) ∙ sym (one.wrong_map before a some e₂)
  same_by false false true e₁ e₂ e₃ h = absurd (h (one.field_cut before a (eqb-false _ _ e₁) e₂ (ltb-true _ _ e₃)))
  same_by false false false e₁ e₂ e₃ h = whole_pair (ltb-false _ _ e₃)

  same_pair : (read_pair before a ≡ Err 18 → ⊥) → read_pair before (a ++ more) ≡ read_pair before a
  same_pair h = same_by (eqb (length a) 0) (map_is_wrong before m) (ltb (length a) (bytes_taken m)) refl refl refl h

  -- a pair that is read from a longer list is read from a front that has its bytes
  pair_of_front : (p : Pair) (n : ℕ) → read_pair before (a ++ more) ≡ Ok (taken_pair p n) → n ≤ length a → read_pair before a ≡ Ok (taken_pair p n)
  pair_of_front p n h long =
      let t = took before (a ++ more) p n h in
      let pos = taken_some before (a ++ more) p n h in
      let e : get_or (a ++ more) 0 0 ≡ m = map_front (λ z. omega arith) in
      let taken : n ≡ bytes_taken m = t.taken_is ∙ ap bytes_taken e in
      sym (whole_pair (omega (arith, taken))) ∙ h

  -- a pair that is taken from the front leaves what follows to the others
  taken_front : (k : ℕ) {p : Pair} {n : ℕ} → read_pair before a ≡ Ok (taken_pair p n) → read_pairs (suc k) before (a ++ more) ≡ with_first p (read_pairs k (Some p) (drop n a ++ more))
  taken_front k {p} {n} h =
      taken_first before (a ++ more) k (same_pair (λ z. let y : ◌≡◌ {A = ℕ} 0 1 = cc in omega arith) ∙ h)
      ∙ ap (λ (l : List ℕ). with_first p (read_pairs k (Some p) l)) (drop-append-le n a more (taken_within before a p n h))

-- ---- the pairs, with bytes behind them

pairs_stay : (k : ℕ) (before : Option Pair) (a more : List ℕ) (n : ℕ) → read_pairs k before a ≡ Err n → (n ≡ 18 → ⊥) → read_pairs k before (a ++ more) ≡ Err n
pairs_stay zero before a more n h other =
    let e = refused_left before a n h in
    let l = length-append a more in
    left_refused before (a ++ more) (λ z. e.0 (omega arith)) ∙ ap Err (sym e.1)
pairs_stay (suc k) before a more n h other =
    elim (refused_at before a k n h) [
      | first e ↦ stopped_first before (a ++ more) k (same_pair before a more (λ z. other (let y : n ≡ 18 = cc in y)) ∙ e)
      | later p taken e rest ↦ taken_front before a more k e ∙ ap (with_first p) (pairs_stay k (Some p) (drop taken a) more n rest other)
    ]

pairs_over : (k : ℕ) (before : Option Pair) (a over : List ℕ) (ps : List Pair) → read_pairs k before a ≡ Ok ps → 0 < length over → read_pairs k before (a ++ over) ≡ Err 21
pairs_over zero before a over ps h some = let l = length-append a over in left_refused before (a ++ over) (λ z. omega arith)
pairs_over (suc k) before a over ps h some =
    let s = split before a k ps h in
    taken_front before a over k s.head_read ∙ ap (with_first s.head) (pairs_over k (Some s.head) (drop s.taken a) over s.tail s.tail_read some)

-- a list is its first n, and the two parts of the rest
from_parts : (n : ℕ) (b front over : List ℕ) → drop n b ≡ front ++ over → b ≡ (take n b ++ front) ++ over
from_parts n b front over e = sym (take-append-drop n b) ∙ ap (λ (l : List ℕ). take n b ++ l) e ∙ sym (append_assoc (take n b) front over)

-- and back: what gets 21 is pairs that are read, and bytes behind them
record ReadAndOver (k : ℕ) (before : Option Pair) (b : List ℕ) : Type 0 where
  front : List ℕ
  over : List ℕ
  ps : List Pair
  parts : b ≡ front ++ over
  reads : read_pairs k before front ≡ Ok ps
  some : 0 < length over

nothing_read : (before : Option Pair) → read_pairs 0 before [] ≡ Ok []
unfolding read_pairs
nothing_read before = refl

read_and_over : (k : ℕ) (before : Option Pair) (b : List ℕ) → read_pairs k before b ≡ Err 21 → ReadAndOver k before b
read_and_over zero before b h = let e = (refused_left before b 21 h).0 in record { front = []; over = b; ps = []; parts = refl; reads = nothing_read before; some = omega arith }
read_and_over (suc k) before b h =
    elim (refused_at before b k 21 h) [
      | first e ↦ absurd (omega (arith, (stopped_number before b 21 e).1))
      | later p taken e rest ↦
          let r = read_and_over k (Some p) (drop taken b) rest in
          let whole = from_parts taken b r.front r.over r.parts in
          let long : length (take taken b) ≡ taken = length-take-le taken b (taken_within before b p taken e) in
          let head = pair_of_front before (take taken b ++ r.front) r.over p taken (ap (read_pair before) (sym whole) ∙ e) (omega (arith, long, length-append (take taken b) r.front)) in
          record {
            front = take taken b ++ r.front;
            over = r.over;
            ps = p ∷ r.ps;
            parts = whole;
            reads = taken_first before (take taken b ++ r.front) k head ∙ ap (with_first p) (ap (read_pairs k (Some p)) (drop_at (take taken b) r.front taken long) ∙ r.reads);
            some = r.some;
          }
    ]

-- ---- the pairs, cut off

drop_take : (t n : ℕ) (b : List ℕ) → t ≤ n → t ≤ length b → drop t (take n b) ≡ take (n - t) (drop t b)
drop_take t n b h long =
    let e : n ≡ t + (n - t) = omega arith in
    ap (λ (k : ℕ). drop t (take k b)) e ∙ ap (drop t) (take-add t (n - t) b) ∙ drop_at (take t b) (take (n - t) (drop t b)) t (length-take-le t b long)

pair_cut : (before : Option Pair) (b : List ℕ) (p : Pair) (t n : ℕ) → read_pair before b ≡ Ok (taken_pair p t) → n < t → read_pair before (take n b) ≡ Err 18
pair_cut before b p t zero h short = one.no_map before (take 0 b) refl
pair_cut before b p t (suc n) h short =
    let k = took before b p t h in
    let long : length (take (suc n) b) ≡ suc n = length-take-le (suc n) b (omega (arith, k.long, k.taken_is)) in
    let map : get_or (take (suc n) b) 0 0 ≡ get_or b 0 0 = get_or-take (suc n) b 0 0 (omega arith) in
    one.field_cut before (take (suc n) b) (λ z. omega arith) (rw map k.right) (rw map (omega (arith, long, k.taken_is)))

pairs_cut : (k : ℕ) (before : Option Pair) (b : List ℕ) (ps : List Pair) (n : ℕ) → read_pairs k before b ≡ Ok ps → n < length b → read_pairs k before (take n b) ≡ Err 18
pairs_cut zero before b ps n h short = absurd (omega (arith, (ended before b ps h).0))
pairs_cut (suc k) before b ps n h short =
    let s = split before b k ps h in
    let within = taken_within before b s.head s.taken s.head_read in
    elim (dec_lt n s.taken) [
      | yes early ↦ stopped_first before (take n b) k (pair_cut before b s.head s.taken n s.head_read early)
      | no late ↦
          let head = pair_of_front before (take n b) (drop n b) s.head s.taken (ap (read_pair before) (take-append-drop n b) ∙ s.head_read) (omega (arith, length-take-le n b (omega arith))) in
          taken_first before (take n b) k head
          ∙ ap (λ (l : List ℕ). with_first s.head (read_pairs k (Some s.head) l)) (drop_take s.taken n b (omega arith) within)
          ∙ ap (with_first s.head) (pairs_cut k (Some s.head) (drop s.taken b) s.tail (n - s.taken) s.tail_read (omega (arith, length-drop s.taken b)))
    ]

-- ---- whole files

-- a file with the count of another is read pair by pair where that one is
reads_on : (places : ℕ) (file other : List ℕ) → 2 ≤ length other → word other 0 ≡ word file 0 → count_in (word file 0) ≡ true → word file 0 ≤ places → read_cycle places other ≡ read_pairs (word file 0) None (drop 2 other)
reads_on places file other long same counted room = (pair_by_pair places other long (rw same counted) (rw same room)).0 ∙ ap (λ (n : ℕ). read_pairs n None (drop 2 other)) same

-- a file that is read, cut off anywhere, ends early
pub cut_off : (places : ℕ) (file : List ℕ) (ps : List Pair) (n : ℕ) → read_cycle places file ≡ Ok ps → n < length file → read_cycle places (take n file) ≡ Err 18
cut_off places file ps n h short =
    let a = accepted places file ps h in
    let long : length (take n file) ≡ n = length-take-le n file (omega arith) in
    elim (dec_lt n 2) [
      | yes few ↦ (no_count places (take n file) (omega arith)).0
      | no some ↦
          reads_on places file (take n file) (omega arith) (rw (get_or-take n file 0 0 (omega arith), get_or-take n file 1 0 (omega arith))) a.counted a.room
          ∙ ap (read_pairs (word file 0) None) (drop_take 2 n file (omega arith) a.long)
          ∙ pairs_cut (word file 0) None (drop 2 file) ps (n - 2) a.reads (omega (arith, length-drop 2 file))
    ]

-- a number other than 18 stays, whatever bytes follow
stays_by : (places : ℕ) (file more : List ℕ) (n : ℕ) → read_cycle places file ≡ Err n → (n ≡ 18 → ⊥) → Beginning places file → read_cycle places (file ++ more) ≡ Err n
stays_by places file more n h other (cut short) = absurd (other (let e = (no_count places file short).0 in let y : n ≡ 18 = cc in y))
stays_by places file more n h other (miscounted long wrong) =
    (bad_count places (file ++ more) (omega (arith, length-append file more)) (rw (word_front file more 0 (omega arith)) wrong)).0 ∙ sym (bad_count places file long wrong).0 ∙ h
stays_by places file more n h other (crowded long right few) =
    (few_places places (file ++ more) (omega (arith, length-append file more)) (rw (word_front file more 0 (omega arith)) right) (rw (word_front file more 0 (omega arith)) few)).0 ∙ sym (few_places places file long right few).0 ∙ h
stays_by places file more n h other (begun long right room) =
    reads_on places file (file ++ more) (omega (arith, length-append file more)) (word_front file more 0 (omega arith)) right room
    ∙ ap (read_pairs (word file 0) None) (drop-append-le 2 file more long)
    ∙ pairs_stay (word file 0) None (drop 2 file) more n (sym (pair_by_pair places file long right room).0 ∙ h) other

pub number_stays : (places : ℕ) (file more : List ℕ) (n : ℕ) → read_cycle places file ≡ Err n → (n ≡ 18 → ⊥) → read_cycle places (file ++ more) ≡ Err n
number_stays places file more n h other = stays_by places file more n h other (begins places file)

-- a file that is read, with bytes behind it, gets 21
pub over_refused : (places : ℕ) (front over : List ℕ) (ps : List Pair) → read_cycle places front ≡ Ok ps → 0 < length over → read_cycle places (front ++ over) ≡ Err 21
over_refused places front over ps h some =
    let a = accepted places front ps h in
    reads_on places front (front ++ over) (omega (arith, a.long, length-append front over)) (word_front front over 0 (omega (arith, a.long))) a.counted a.room
    ∙ ap (read_pairs (word front 0) None) (drop-append-le 2 front over a.long)
    ∙ pairs_over (word front 0) None (drop 2 front) over ps a.reads some

-- and nothing else does
abbrev pub ReadWithMore : ℕ → List ℕ → Type 0
ReadWithMore places file = (front : List ℕ) × ((over : List ℕ) × ((ps : List Pair) × ((file ≡ front ++ over) × ((read_cycle places front ≡ Ok ps) × (0 < length over)))))

over_by : (places : ℕ) (file : List ℕ) → read_cycle places file ≡ Err 21 → Beginning places file → ReadWithMore places file
over_by places file h (cut short) = absurd (let e = (no_count places file short).0 in let z : ◌≡◌ {A = ℕ} 18 21 = cc in omega arith)
over_by places file h (miscounted long wrong) = absurd (let e = (bad_count places file long wrong).0 in let z : ◌≡◌ {A = ℕ} 12 21 = cc in omega arith)
over_by places file h (crowded long right few) = absurd (let e = (few_places places file long right few).0 in let z : ◌≡◌ {A = ℕ} 20 21 = cc in omega arith)
over_by places file h (begun long right room) =
    let r = read_and_over (word file 0) None (drop 2 file) (sym (pair_by_pair places file long right room).0 ∙ h) in
    let front = take 2 file ++ r.front in
    let whole = from_parts 2 file r.front r.over r.parts in
    let two : length (take 2 file) ≡ 2 = length-take-le 2 file long in
    let more : 2 ≤ length front = omega (arith, two, length-append (take 2 file) r.front) in
    let same : word front 0 ≡ word file 0 = sym (word_front front r.over 0 (omega arith)) ∙ ap (λ (l : List ℕ). word l 0) (sym whole) in
    (front, (r.over, (r.ps, (whole, (reads_on places file front more same right room ∙ ap (read_pairs (word file 0) None) (drop_at (take 2 file) r.front 2 two) ∙ r.reads, r.some)))))

pub over_whole : (places : ℕ) (file : List ℕ) → read_cycle places file ≡ Err 21 → ReadWithMore places file
over_whole places file h = over_by places file h (begins places file)
