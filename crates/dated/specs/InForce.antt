-- Which of two dated cycle files is in force. Document 02, Req 13, "Which file is in force": "The carrier now puts a 2-byte issue day, high
-- byte first, before a cycle file. We lend two such files and want back the cycle part of the one in force. A file that can't be read,
-- judged with 512 places, gives way to one that can. Of two readable ones the later day counts; equal files, the first. One call tells which
-- file or the number; a second hands back the part, empty at a refusal. Two unreadable ones give the first file's number, 18 where there is
-- no whole day. Turned away: 29 when both can be read, have the same day and differ."
use Rattle.std.specs.Prelude.{ℕ, ◌+◌, ◌≡◌, List, [], Bool, cond, length, drop, ltb, bytes_eq, Result, Ok, Err}
use Rattle.spec.specs.File.{word}
use Rattle.pairs.specs.declared.Pair.{Pair}
use Rattle.cyclefile.specs.File.{read_cycle}
use Rattle.dated.specs.declared.InForce.{InForce}
use Rattle.dated.specs.declared.InForce.TheVariants.{First, Second}

-- "a 2-byte issue day, high byte first"
abbrev pub issue_day : List ℕ → ℕ
issue_day file = word file 0

-- "before a cycle file"
abbrev pub cycle_part : List ℕ → List ℕ
cycle_part file = drop 2 file

-- "judged with 512 places"; "18 where there is no whole day"
unfoldable pub read_dated : List ℕ → Result (List Pair) ℕ
read_dated file = cond (ltb (length file) 2) (Err 18) (read_cycle 512 (cycle_part file))

-- the issue day of a file that can be read, or the number that reading it gives
abbrev pub with_day : ℕ → Result (List Pair) ℕ → Result ℕ ℕ
with_day day (Ok ps) = Ok day
with_day day (Err n) = Err n

unfoldable pub read_day : List ℕ → Result ℕ ℕ
read_day file = with_day (issue_day file) (read_dated file)

-- "Of two readable ones the later day counts; equal files, the first"; "29 when both .. have the same day and differ"
abbrev pub later_of : (day day' : ℕ) (equal : Bool) → Result InForce ℕ
later_of day day' equal = cond (ltb day' day) (Ok First) (cond (ltb day day') (Ok Second) (cond equal (Ok First) (Err 29)))

-- "A file that can't be read .. gives way to one that can"; "Two unreadable ones give the first file's number"
abbrev pub choice : (day day' : Result ℕ ℕ) (equal : Bool) → Result InForce ℕ
choice (Ok day) (Ok day') equal = later_of day day' equal
choice (Ok day) (Err m) equal = Ok First
choice (Err n) (Ok day') equal = Ok Second
choice (Err n) (Err m) equal = Err n

-- which file, or the number
unfoldable pub in_force : List ℕ → List ℕ → Result InForce ℕ
in_force a b = choice (read_day a) (read_day b) (bytes_eq a b)

-- "the cycle part of the one in force", "empty at a refusal"
abbrev pub part_of : Result InForce ℕ → List ℕ → List ℕ → List ℕ
part_of (Ok First) a b = cycle_part a
part_of (Ok Second) a b = cycle_part b
part_of (Err n) a b = []

unfoldable pub part_in_force : List ℕ → List ℕ → List ℕ
part_in_force a b = part_of (in_force a b) a b

-- A place is a block of memory and an offset in it. The part begins 2 bytes past the beginning of the file in force; an empty one, where the first
-- file begins.
abbrev pub part_place : Result InForce ℕ → (first second : ℕ × ℕ) → ℕ × ℕ
part_place (Ok First) p q = (p.0, p.1 + 2)
part_place (Ok Second) p q = (q.0, q.1 + 2)
part_place (Err n) p q = p

-- ---- What the promises are said with

-- a file that can be read
abbrev pub Readable : List ℕ → Type 0
Readable file = (c : List Pair) × (read_dated file ≡ Ok c)

-- an answer that tells the same file where the two stand the other way round
abbrev pub swapped : Result InForce ℕ → Result InForce ℕ
swapped (Ok First) = Ok Second
swapped (Ok Second) = Ok First
swapped (Err n) = Err n
