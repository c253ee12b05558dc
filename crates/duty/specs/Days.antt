-- The numbers of a day that is held by its windows.
use Rattle.std.specs.Prelude.{ℕ, List, [], ◌∷◌}
use Rattle.duty.specs.declared.Day.{Day}

abbrev pub numbers_of : Day → List ℕ
numbers_of d = d.first.opens ∷ d.first.closes ∷ d.second.opens ∷ d.second.closes ∷ []
