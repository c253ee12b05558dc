-- A cycle in memory. Document 01, "Cycles": "A cycle in memory is a lent list of pairs, gap then size, 1 to 512 of them (the count is the
-- list's length), each number 0 to 65,535".
-- Every definition over a cycle takes its list of pairs. A flat list of numbers is a way to hold one.
use Rattle.std.specs.Prelude.{ℕ, Bool, cond, ◌&&◌, List, [], ◌∷◌, ◌++◌, leb, length, drop}
use Rattle.pairs.specs.declared.Pair.{Pair}

-- "1 to 512 of them"
abbrev pub count_in : ℕ → Bool
count_in n = leb 1 n && leb n 512

-- what `get_or` gives past the end of a list of pairs
abbrev pub no_pair : Pair
no_pair = record { gap = 0; size = 0 }

-- the numbers of the pairs: gap, size, gap, size, ..
abbrev pub flatten : List Pair → List ℕ
flatten [] = []
flatten (p ∷ ps) = p.gap ∷ p.size ∷ flatten ps

-- the pairs that a flat list holds: a last number with no partner is no pair
abbrev pub pairs_of : List ℕ → List Pair
pairs_of [] = []
pairs_of (g ∷ []) = []
pairs_of (g ∷ s ∷ l) = record { gap = g; size = s } ∷ pairs_of l

-- the pairs that go to where there is room for so many: all of them or, where they are too many (12, 20), none
abbrev pub that_fit : ℕ → List Pair → List Pair
that_fit room ps = cond (leb (length ps) room) ps []

-- what a list holds once another is stored in front: "Places past the count keep their contents", "Bytes past the file keep theirs"
abbrev pub laid_over : {A : Type 0} → List A → List A → List A
laid_over new old = new ++ drop (length new) old
