-- Laws of which pairs are copied: all of them or none. And what a count in range says. Assumes nothing.
use mathlib.Core.Path.{◌≡◌, refl}
use Prim.Native.Nat.{ℕ, ◌≤◌, ◌<◌}
use mathlib.Core.Bool.{Bool, true, false, cond, and-eq-true_iff}
use mathlib.Core.List.{List, []}
use lib.Dec.{leb}
use lib.ListN.{length}
use borrow.Author.Tests.{leb-true, le-leb, lt-leb}
use Rattle.pairs.specs.declared.Pair.{Pair}
use Rattle.pairs.specs.Pairs.{count_in, that_fit}

pub count_in_true : (n : ℕ) → count_in n ≡ true → (1 ≤ n) × (n ≤ 512)
count_in_true n e = let k = simp and-eq-true_iff at e in (leb-true 1 n k.0, leb-true n 512 k.1)

pub all_fit : (room : ℕ) (ps : List Pair) → length ps ≤ room → that_fit room ps ≡ ps
all_fit room ps h = rw (le-leb (length ps) room h)

pub none_fit : (room : ℕ) (ps : List Pair) → room < length ps → that_fit room ps ≡ []
none_fit room ps h = rw (lt-leb (length ps) room h)

-- what holds of all of the pairs, where they fit, and of none, where they do not, holds of those that fit
cases_by : (ps : List Pair) (Q : List Pair → Type 0) (fits t : Bool) → fits ≡ t → (fits ≡ true → Q ps) → (fits ≡ false → Q []) → Q (cond t ps [])
cases_by ps Q fits true e all none = all e
cases_by ps Q fits false e all none = none e

pub fit_cases : (room : ℕ) (ps : List Pair) (Q : List Pair → Type 0) → (leb (length ps) room ≡ true → Q ps) → (leb (length ps) room ≡ false → Q []) → Q (that_fit room ps)
fit_cases room ps Q all none = cases_by ps Q (leb (length ps) room) (leb (length ps) room) refl all none
