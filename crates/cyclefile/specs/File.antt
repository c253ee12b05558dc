-- The cycle file, written and read. Document 01, "Cycles", "Cycle file": "The count, 2 bytes high first. Then per pair one byte of bit map
-- (bit 0 gap, bit 1 size) and 2 bytes for each bit that stands, gap before size, high byte first. The first pair has both fields. After it, a
-- field left out equals the pair's before it, and it is left out exactly when equal."
-- And "What each operation turns down, in order", "Reading a cycle" and "Writing a cycle"; document 02, Req 01, "Cut off or too long".
use Rattle.std.specs.Prelude.{ℕ, zero, suc, ◌+◌, ◌/◌, ◌%◌, ◌<◌, ◌≡◌, List, [], ◌∷◌, ◌++◌, Bool, true, cond, ◌&&◌, ◌||◌, not, length, get_or, drop, ltb, eqb, Option, None, Some, unwrap_or, Result, Ok, Err}
use Rattle.spec.specs.File.{word}
use Rattle.pairs.specs.declared.Pair.{Pair}
use Rattle.pairs.specs.Pairs.{count_in, no_pair, laid_over}
use Rattle.cyclefile.specs.declared.reading.steps.Taken.{Taken}

-- ---- Writing. The pair before the one that is written or read is there from the second pair on

-- 2 bytes, high byte first
abbrev pub bytes_of : ℕ → List ℕ
bytes_of n = n / 256 ∷ n % 256 ∷ []

-- whether a field stands: in the first pair always; after it, it is left out exactly when it equals the one before
abbrev pub stands : Option Pair → (Pair → ℕ) → Pair → Bool
stands None field p = true
stands (Some q) field p = not (eqb (field p) (field q))

abbrev pub gap_stands : Option Pair → Pair → Bool
gap_stands before p = stands before (λ (q : Pair). q.gap) p

abbrev pub size_stands : Option Pair → Pair → Bool
size_stands before p = stands before (λ (q : Pair). q.size) p

-- the same of a field by itself, and that of the pair before
abbrev pub differs : Option ℕ → ℕ → Bool
differs None n = true
differs (Some m) n = not (eqb n m)

-- bit 0 gap, bit 1 size
abbrev pub map_byte : Bool → Bool → ℕ
map_byte gap size = cond gap 1 0 + cond size 2 0

abbrev pub field_bytes : Bool → ℕ → List ℕ
field_bytes stands n = cond stands (bytes_of n) []

unfoldable pub pair_bytes : Option Pair → Pair → List ℕ
pair_bytes before p = map_byte (gap_stands before p) (size_stands before p) ∷ (field_bytes (gap_stands before p) p.gap ++ field_bytes (size_stands before p) p.size)

unfoldable pub pairs_bytes : Option Pair → List Pair → List ℕ
pairs_bytes before [] = []
pairs_bytes before (p ∷ ps) = pair_bytes before p ++ pairs_bytes (Some p) ps

-- the file of a cycle
unfoldable pub cycle_bytes : List Pair → List ℕ
cycle_bytes ps = bytes_of (length ps) ++ pairs_bytes None ps

-- "Writing a cycle: 12; 20 the lent bytes are fewer than the file": the number for so many lent bytes, 0 where the file is written
unfoldable pub write_number : ℕ → List Pair → ℕ
write_number room ps = cond (not (count_in (length ps))) 12 (cond (ltb room (length (cycle_bytes ps))) 20 0)

-- ---- Reading

-- the bits of a map byte
abbrev pub has_gap : ℕ → Bool
has_gap m = eqb (m % 2) 1

abbrev pub has_size : ℕ → Bool
has_size m = eqb (m / 2 % 2) 1

-- "bits 2 to 7 stand or a first pair lacks a field"
abbrev pub map_is_wrong : Option Pair → ℕ → Bool
map_is_wrong None m = ltb 3 m || not (has_gap m && has_size m)
map_is_wrong (Some q) m = ltb 3 m

abbrev pub field_length : Bool → ℕ
field_length stands = cond stands 2 0

-- the bytes that a pair with this map takes
abbrev pub bytes_taken : ℕ → ℕ
bytes_taken m = 1 + field_length (has_gap m) + field_length (has_size m)

-- what a field left out equals (no first pair that is read lacks one)
abbrev pub last_pair : Option Pair → Pair
last_pair before = unwrap_or before no_pair

-- the pair whose map byte and fields b starts with, after the pair q
abbrev pub pair_at : Pair → List ℕ → Pair
pair_at q b =
    record {
      gap = cond (has_gap (get_or b 0 0)) (word b 1) q.gap;
      size = cond (has_size (get_or b 0 0)) (word b (1 + field_length (has_gap (get_or b 0 0)))) q.size;
    }

-- "a field that should be left out" stands
abbrev pub stands_in_vain : Option Pair → ℕ → Pair → Bool
stands_in_vain before m p = (has_gap m && not (gap_stands before p)) || (has_size m && not (size_stands before p))

-- a pair that is read, and how many bytes it takes
abbrev pub taken_pair : Pair → ℕ → Taken
taken_pair p n = record { pair = p; bytes = n }

-- "pair by pair 18 no map byte, 17 bits 2 to 7 stand or a first pair lacks a field, 18 a field is cut, 19 a field that should be left out"
unfoldable pub read_pair : Option Pair → List ℕ → Result Taken ℕ
read_pair before b =
    cond (eqb (length b) 0) (Err 18)
    (cond (map_is_wrong before (get_or b 0 0)) (Err 17)
    (cond (ltb (length b) (bytes_taken (get_or b 0 0))) (Err 18)
    (cond (stands_in_vain before (get_or b 0 0) (pair_at (last_pair before) b)) (Err 19)
    (Ok (taken_pair (pair_at (last_pair before) b) (bytes_taken (get_or b 0 0)))))))

-- what follows what was read, or a refusal
abbrev pub after_read : {A R : Type 0} → Result A ℕ → (ℕ → R) → (A → R) → R
after_read (Ok x) stop rest = rest x
after_read (Err n) stop rest = stop n

abbrev pub with_first : Pair → Result (List Pair) ℕ → Result (List Pair) ℕ
with_first p (Ok ps) = Ok (p ∷ ps)
with_first p (Err n) = Err n

-- n pairs; then, last of all, document 02, Req 01: "21 bytes over, at the place where document 01 has its last 18"
unfoldable pub read_pairs : ℕ → Option Pair → List ℕ → Result (List Pair) ℕ
read_pairs zero before b = cond (eqb (length b) 0) (Ok []) (Err 21)
read_pairs (suc n) before b = after_read (read_pair before b) Err (λ (t : Taken). with_first t.pair (read_pairs n (Some t.pair) (drop t.bytes b)))

-- "18 under 2 bytes; 12; 20 the lent list has fewer places than the count": the count that a file begins with, or the number
unfoldable pub read_count : ℕ → List ℕ → Result ℕ ℕ
read_count places file =
    cond (ltb (length file) 2) (Err 18)
    (cond (not (count_in (word file 0))) (Err 12)
    (cond (ltb places (word file 0)) (Err 20)
    (Ok (word file 0))))

-- ".. then pair by pair .."
unfoldable pub read_cycle : ℕ → List ℕ → Result (List Pair) ℕ
read_cycle places file = after_read (read_count places file) Err (λ (n : ℕ). read_pairs n None (drop 2 file))

-- the pairs in front of the first refusal, and all n where there is none
unfoldable pub passed_pairs : ℕ → Option Pair → List ℕ → List Pair
passed_pairs zero before b = []
passed_pairs (suc n) before b = after_read (read_pair before b) (λ (m : ℕ). []) (λ (t : Taken). t.pair ∷ passed_pairs n (Some t.pair) (drop t.bytes b))

-- of a whole file: what is stored where each pair is stored as it is read
unfoldable pub stored_pairs : ℕ → List ℕ → List Pair
stored_pairs places file = after_read (read_count places file) (λ (m : ℕ). []) (λ (n : ℕ). passed_pairs n None (drop 2 file))

-- ---- What calls answer, and what they leave in lent places

-- the answer of a reader that stores the pairs, or of a writer that stores the bytes: how many they are, or the refusal
abbrev pub file_answer : {A : Type 0} → Result (List A) ℕ → Result ℕ ℕ
file_answer (Ok stored) = Ok (length stored)
file_answer (Err n) = Err n

-- reading into lent places and a lent count, which hold places' and count' afterwards: "A refusal yields its number .. and writes to no
-- lent list or bytes"
abbrev pub Reads : Result (List Pair) ℕ → (places : List Pair) (count answer : ℕ) (places' : List Pair) (count' : ℕ) → Type 0
Reads (Ok ps) places count answer places' count' = (answer ≡ 0) × (places' ≡ laid_over ps places) × (count' ≡ length ps)
Reads (Err n) places count answer places' count' = (answer ≡ n) × (places' ≡ places) × (count' ≡ count)

-- lent bytes after writing
abbrev pub bytes_after : List Pair → List ℕ → List ℕ
bytes_after ps old = cond (eqb (write_number (length old) ps) 0) (laid_over (cycle_bytes ps) old) old

-- writing pairs into lent bytes and a lent length, which hold file' and written' afterwards
pub record Writes (ps : List Pair) (file : List ℕ) (written : ℕ) (answer : ℕ) (file' : List ℕ) (written' : ℕ) : Type 0 where
  pub answer_is : answer ≡ write_number (length file) ps
  pub bytes_are : file' ≡ bytes_after ps file
  pub written_is : written' ≡ cond (eqb (write_number (length file) ps) 0) (length (cycle_bytes ps)) written

-- ---- What is written of 16-bit numbers is made of bytes

abbrev pub AreBytes : List ℕ → Type 0
AreBytes file = (i : ℕ) → get_or file i 0 < 256

-- each number of each pair has 16 bits
abbrev pub Words : List Pair → Type 0
Words [] = Unit {0}
Words (p ∷ ps) = (p.gap < 65536) × ((p.size < 65536) × Words ps)
