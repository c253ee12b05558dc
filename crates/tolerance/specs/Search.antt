-- How the code asks for one lateness after another. No part of what it finds: Tolerance.antt says that.
use Rattle.std.specs.Prelude.{ℕ, ◌+◌, ◌-◌, List, [], ◌∷◌, Result, Ok, Err}
use Rattle.tolerance.specs.declared.Late.{Late}

-- the steps, one a question
abbrev pub steps : List ℕ
steps = 1_024 ∷ 512 ∷ 256 ∷ 128 ∷ 64 ∷ 32 ∷ 16 ∷ 8 ∷ 4 ∷ 2 ∷ 1 ∷ []

-- the lateness to ask about: a step above the largest so far, which counts as one below 0 where nothing was found yet
abbrev pub next : {A : Type 0} → Result (Late A) ℕ → ℕ → ℕ
next (Ok t) step = t.lateness + step
next (Err n) step = step - 1

-- the largest so far after one more answer, or the newest refusal where nothing was found yet
abbrev pub better : {A : Type 0} → Result (Late A) ℕ → ℕ → Result A ℕ → Result (Late A) ℕ
better best lateness (Ok x) = Ok (record { lateness = lateness; found = x })
better (Ok t) lateness (Err n) = Ok t
better (Err m) lateness (Err n) = Err n
