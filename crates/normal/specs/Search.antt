-- What the inner functions say of one another: two starts, one of which or a later one begins the turn that comes first. None of it stands in
-- the contract of a function that others call.
use Rattle.std.specs.Prelude.{ℕ, ◌+◌, ◌*◌, ◌≤◌, ◌<◌, ◌≡◌, max, cond, List, eqb, ltb}
use Rattle.pairs.specs.declared.Pair.{Pair}
use Rattle.normal.specs.declared.least.Search.{Search}
use Rattle.normal.specs.Normal.{pair_of, least_start}

-- x is the pair as one number. Sizes are numbers of 16 bits, so the order of such numbers is that of pairs by gap, then size.
pub record IsKey (p : Pair) (x : ℕ) : Type 0 where
  pub value : x ≡ p.gap * 65536 + p.size
  pub size_fits : p.size ≤ 65535

-- one pair more agrees
abbrev pub longer : Search → Search
longer s = record { first = s.first; second = s.second; agreed = s.agreed + 1 }

-- the second start goes on past the pairs that agree and the one behind them
abbrev pub second_on : Search → Search
second_on s = record { first = s.first; second = s.second + s.agreed + 1; agreed = 0 }

-- the first start does, and not to one that is ruled out before the second
abbrev pub first_on : Search → Search
first_on s = let next = max s.second (s.first + s.agreed + 1) in record { first = next; second = next + 1; agreed = 0 }

-- One step of the search, at the first pairs not known to agree, x from the first start and y from the second. Where x is less, no start from
-- the second up to this place comes first; where x is greater, none from the first.
abbrev pub stepped : Search → ℕ → ℕ → Search
stepped s x y = cond (eqb x y) (longer s) (cond (ltb x y) (second_on s) (first_on s))

-- What the search keeps: the pairs from both starts agree so far, and no start before the second is left but the first.
pub record Searches (ps : List Pair) (s : Search) : Type 0 where
  pub apart : s.first < s.second
  pub agree : (m : ℕ) → m < s.agreed → pair_of ps (s.first + m) ≡ pair_of ps (s.second + m)
  pub one_left : least_start ps < s.second → least_start ps ≡ s.first
