-- The plain machine's list: what an offer that was accepted has passed, and that minutes fall along the list, the last accepted first.
use Prim.Native.Nat.{ℕ, ◌+◌, ◌≤◌}
use native.Mathlib.Omega.{arith}
use mathlib.Core.Path.{◌≡◌, refl}
use mathlib.Core.Bool.{Bool, true, false, cond, not}
use mathlib.Core.List.{List, [], ◌∷◌}
use lib.Dec.{eqb}
use borrow.Author.Tests.{ltb-false, eqb-true}
use Rattle.spec.specs.declared.Spec.{Spec}
use Rattle.spec.specs.Limits.{size_allowed}
use Rattle.meter.specs.Plain.{Report, too_early, over_budget, no_place, first_of, offer_number, after, later}

pub record Passed (early outside over full : Bool) : Type 0 where
  pub in_time : early ≡ false
  pub in_range : outside ≡ false
  pub in_budget : over ≡ false
  pub has_place : full ≡ false

pub passed : (early outside over full : Bool) → first_of early outside over full ≡ 0 → Passed early outside over full
passed true outside over full e = absurd (omega arith)
passed false true over full e = absurd (omega arith)
passed false false true full e = absurd (omega arith)
passed false false false true e = absurd (omega arith)
passed false false false false e = record { in_time = refl; in_range = refl; in_budget = refl; has_place = refl }

-- minutes fall along the list, or stay, and none is above t
abbrev pub FallsFrom : ℕ → List Report → Type 0
FallsFrom t [] = Unit {0}
FallsFrom t (x ∷ l) = (x.minute ≤ t) × FallsFrom x.minute l

abbrev pub Falls : List Report → Type 0
Falls [] = Unit {0}
Falls (x ∷ l) = FallsFrom x.minute l

pub falls_later : (t t' : ℕ) (l : List Report) → t ≤ t' → FallsFrom t l → FallsFrom t' l
falls_later t t' [] h f = tt
falls_later t t' (x ∷ l) h f = (omega arith, f.1)

-- no minute is above the later of the offered and the last accepted; that is the offered one where the offer is in time
pub later_falls : (l : List Report) (t : ℕ) → Falls l → FallsFrom (later l t) l
unfolding later
later_falls [] t f = tt
later_falls (x ∷ l) t f = (omega arith, f)

pub later_offered : (spec : Spec) (l : List Report) (t : ℕ) → too_early spec l t ≡ false → later l t ≡ t
unfolding later too_early
later_offered spec [] t e = refl
later_offered spec (x ∷ l) t e = omega (arith, ltb-false t (x.minute + spec.smin) e)

pub offered_falls : (spec : Spec) (l : List Report) (t : ℕ) → too_early spec l t ≡ false → Falls l → FallsFrom t l
offered_falls spec l t e f = rw (later_offered spec l t e) at (later_falls l t f)

-- what an acceptance keeps, every offer keeps
pub after_keeps : (P : List Report → Type 0) (spec : Spec) (l : List Report) (x : Report) → P l
    → (Passed (too_early spec l x.minute) (not (size_allowed spec x.size)) (over_budget spec.supply l x) (no_place spec.supply l x) → P (x ∷ l))
    → P (after spec l x)
unfolding after offer_number
after_keeps P spec l x kept taken = pick (eqb (offer_number spec l x) 0) refl
  where
    pick : (b : Bool) → eqb (offer_number spec l x) 0 ≡ b → P (cond b (x ∷ l) l)
    pick true e = taken (passed _ _ _ _ (eqb-true _ _ e))
    pick false e = kept
