-- `table_of` meets its contract: seven days in order, or seven that have no window.
use Prim.Native.Nat.{ℕ, ◌+◌, ◌≤◌}
use native.Mathlib.Omega.{arith}
use native.Mathlib.Nat.{add-zero}
use mathlib.Core.Path.{◌≡◌, refl, ◌∙◌}
use mathlib.Core.List.{List, [], ◌∷◌}
use lib.ListN.{length, get_or, take, drop}
use borrow.Author.Tests.{eq-eqb, ne_eqb}
use Rattle.std.specs.Simd.{first_chunks}
use Rattle.std.proofs.lemmas.List.{get_or-drop, length-drop, drop-drop}
use Rattle.duty.specs.Minutes.{week_of, table_of}
use Rattle.duty.proofs.table_of.Goals as goal

first_four : (l : List ℕ) → 4 ≤ length l → take 4 l ≡ get_or l 0 0 ∷ get_or l 1 0 ∷ get_or l 2 0 ∷ get_or l 3 0 ∷ []
first_four [] h = absurd (omega arith)
first_four (a ∷ []) h = absurd (omega arith)
first_four (a ∷ b ∷ []) h = absurd (omega arith)
first_four (a ∷ b ∷ d ∷ []) h = absurd (omega arith)
first_four (a ∷ b ∷ d ∷ e ∷ l) h = refl

four_at : (n : ℕ) (l : List ℕ) → n + 4 ≤ length l → take 4 (drop n l) ≡ get_or l n 0 ∷ get_or l (n + 1) 0 ∷ get_or l (n + 2) 0 ∷ get_or l (n + 3) 0 ∷ []
four_at n l h = first_four (drop n l) (omega (arith, length-drop n l)) ∙ simp (get_or-drop, add-zero)

seven_days : (l : List ℕ) → length l ≡ 28 → first_chunks 4 7 l ≡ week_of l
seven_days l h =
    simp drop-drop
    (rw (
      first_four l (omega arith),
      four_at 4 l (omega arith),
      four_at 8 l (omega arith),
      four_at 12 l (omega arith),
      four_at 16 l (omega arith),
      four_at 20 l (omega arith),
      four_at 24 l (omega arith),
    ))

pub returns-then-numbers-eq28 : goal.returns-then-numbers-eq28
unfolding table_of
returns-then-numbers-eq28 c =
    let e = c.if-numbers-eq28.true in
    rw (eq-eqb _ 28 e, c.copy_from_slice.ensures.after, rw e at c.as_chunks.ensures.front) (seven_days _ e)

pub returns-else-numbers-eq28 : goal.returns-else-numbers-eq28
unfolding table_of
returns-else-numbers-eq28 c = rw (ne_eqb _ 28 c.if-numbers-eq28.false)
