-- Document 02, Req 12: "Only 12 and 20 can occur, 20 when the lent list has fewer places than the normal form; places past it keep their
-- contents." Document 01: "A refusal yields its number .. and writes to no lent list or bytes".
use Rattle.std.specs.Prelude.{ℕ, cond, List, leb, length, Result, Ok, Err}
use Rattle.pairs.specs.declared.Pair.{Pair}
use Rattle.pairs.specs.Pairs.{count_in, laid_over}
use Rattle.normal.specs.Normal.{normal_form}

-- how many pairs the normal form has, or the number, where a list of so many places is lent
unfoldable pub normalised : ℕ → List Pair → Result ℕ ℕ
normalised places ps = cond (count_in (length ps)) (cond (leb (length (normal_form ps)) places) (Ok (length (normal_form ps))) (Err 20)) (Err 12)

-- what the lent list holds afterwards
abbrev pub stored : Result ℕ ℕ → List Pair → List Pair → List Pair
stored (Ok n) ps old = laid_over (normal_form ps) old
stored (Err n) ps old = old

unfoldable pub places_after : List Pair → List Pair → List Pair
places_after ps old = stored (normalised (length old) ps) ps old
