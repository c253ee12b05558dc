-- Document 02, Req 12: "Give each cycle a normal form: the shortest list whose repetition it is, turned so that it comes first in the order
-- by gap, then size, pair by pair." Gaps and sizes are any numbers, 0 too.
use Rattle.std.specs.Prelude.{ℕ, zero, suc, ◌+◌, ◌%◌, Bool, true, false, ◌&&◌, ◌||◌, List, [], ◌∷◌, eqb, ltb, length, get_or}
use Rattle.numbers.specs.Numbers.{all, first}
use Rattle.pairs.specs.declared.Pair.{Pair}
use Rattle.pairs.specs.Pairs.{no_pair}

-- the pair of report i of the endless repetition
unfoldable pub pair_of : List Pair → ℕ → Pair
pair_of ps i = get_or ps (i % length ps) no_pair

-- both numbers are equal
abbrev pub same : Pair → Pair → Bool
same p q = eqb p.gap q.gap && eqb p.size q.size

-- The repetition is that of its first n pairs: each report is the same as the one n reports later. The reports of one round tell.
unfoldable pub repeats : List Pair → ℕ → Bool
repeats ps n = all (λ i. same (pair_of ps (i + n)) (pair_of ps i)) (length ps)

-- "the shortest list whose repetition it is": how many pairs that has, at most as many as the cycle
unfoldable pub period : List Pair → ℕ
period ps = first (repeats ps) (length ps) 1

-- the pairs of n reports, from report i on: with n the period, the shortest list turned so that it begins there
unfoldable pub row : List Pair → ℕ → ℕ → List Pair
row ps i zero = []
row ps i (suc n) = pair_of ps i ∷ row ps (i + 1) n

-- "by gap, then size": p is before q
abbrev pub before : Pair → Pair → Bool
before p q = ltb p.gap q.gap || (eqb p.gap q.gap && ltb p.size q.size)

-- "pair by pair": the first two pairs that differ decide which list is not after the other
unfoldable pub in_order : List Pair → List Pair → Bool
in_order [] qs = true
in_order (p ∷ ps) [] = false
in_order (p ∷ ps) (q ∷ qs) = before p q || (same p q && in_order ps qs)

-- of the turns of n pairs none is before the one that begins at report i
unfoldable pub comes_first : List Pair → ℕ → ℕ → Bool
comes_first ps n i = all (λ j. in_order (row ps i n) (row ps j n)) n

-- "turned so that it comes first": the report with which that turn begins
unfoldable pub least_start : List Pair → ℕ
least_start ps = first (comes_first ps (period ps)) (period ps) 0

unfoldable pub normal_form : List Pair → List Pair
normal_form ps = row ps (least_start ps) (period ps)
