-- The number step by step: what each test that passed or failed makes of it, and which tests it says have passed or failed.
use Prim.Native.Nat.{ℕ, ◌≤◌}
use native.Mathlib.Omega.{arith}
use mathlib.Core.Path.{◌≡◌, refl}
use mathlib.Core.Logic.{◌⊎◌, inl, inr}
use mathlib.Core.List.{List}
use mathlib.Core.Bool.{Bool, true, false}
use lib.ListN.{length}
use Rattle.spec.specs.declared.Spec.{Spec}
use Rattle.spec.specs.Limits.{gap_allowed}
use Rattle.spec.proofs.Facts.{between_iff}
use Rattle.pairs.specs.declared.Pair.{Pair}
use Rattle.pairs.specs.Pairs.{count_in}
use Rattle.pairs.proofs.Counts.{count_in_true}
use Rattle.cycle.specs.Cycles.{cycle_run}
use Rattle.cycle.specs.Check.{gaps_allowed, sizes_allowed, supply_kept, demand_met, first_refusal, shape_number, cycle_number}
use Rattle.cycle.specs.Windows.{Judges, Walkable}
use Rattle.cycle.proofs.Runs.{gaps_right}

pub count_right : (n : ℕ) → 1 ≤ n → n ≤ 512 → count_in n ≡ true
count_right n some few = (between_iff 1 512 n).1 (some, few)

-- from the tests to the number
pub gets_12 : (count gaps sizes supply demand : Bool) → count ≡ false → 12 ≡ first_refusal count gaps sizes supply demand
unfolding first_refusal
gets_12 count gaps sizes supply demand h = rw h

module _ (count gaps sizes supply demand : Bool) (counted : count ≡ true) where
  pub gets_13 : gaps ≡ false → 13 ≡ first_refusal count gaps sizes supply demand
  unfolding first_refusal
  gets_13 h = rw (counted, h)

  module _ (allowed : gaps ≡ true) where
    pub gets_14 : sizes ≡ false → 14 ≡ first_refusal count gaps sizes supply demand
    unfolding first_refusal
    gets_14 h = rw (counted, allowed, h)

    module _ (sized : sizes ≡ true) where
      pub gets_15 : supply ≡ false → 15 ≡ first_refusal count gaps sizes supply demand
      unfolding first_refusal
      gets_15 h = rw (counted, allowed, sized, h)

      module _ (kept : supply ≡ true) where
        pub gets_16 : demand ≡ false → 16 ≡ first_refusal count gaps sizes supply demand
        unfolding first_refusal
        gets_16 h = rw (counted, allowed, sized, kept, h)

        pub gets_0 : demand ≡ true → 0 ≡ first_refusal count gaps sizes supply demand
        unfolding first_refusal
        gets_0 h = rw (counted, allowed, sized, kept, h)

-- and from the number to the tests
pub record Said (n : ℕ) (count gaps sizes supply demand : Bool) : Type 0 where
  pub counted : 13 ≤ n → count ≡ true
  pub is_0 : n ≡ 0 → (count ≡ true) × (gaps ≡ true) × (sizes ≡ true) × (supply ≡ true) × (demand ≡ true)
  pub is_13 : n ≡ 13 → gaps ≡ false
  pub is_14 : n ≡ 14 → (gaps ≡ true) × (sizes ≡ false)
  pub is_15 : n ≡ 15 → (gaps ≡ true) × (sizes ≡ true) × (supply ≡ false)
  pub is_16 : n ≡ 16 → (gaps ≡ true) × (sizes ≡ true) × (supply ≡ true) × (demand ≡ false)

-- a number is no other
no : {A : Type 0} (n m : ℕ) → (n ≡ m → ⊥) → n ≡ m → A
no n m h e = absurd (h e)

pub said : (a b c d e : Bool) → Said (first_refusal a b c d e) a b c d e
unfolding first_refusal
said true true true true true = record { counted = λ h. refl; is_0 = λ h. (refl, refl, refl, refl, refl); is_13 = no 0 13 (omega arith); is_14 = no 0 14 (omega arith); is_15 = no 0 15 (omega arith); is_16 = no 0 16 (omega arith) }
said true true true true false = record { counted = λ h. refl; is_0 = no 16 0 (omega arith); is_13 = no 16 13 (omega arith); is_14 = no 16 14 (omega arith); is_15 = no 16 15 (omega arith); is_16 = λ h. (refl, refl, refl, refl) }
said true true true false e = record { counted = λ h. refl; is_0 = no 15 0 (omega arith); is_13 = no 15 13 (omega arith); is_14 = no 15 14 (omega arith); is_15 = λ h. (refl, refl, refl); is_16 = no 15 16 (omega arith) }
said true true false d e = record { counted = λ h. refl; is_0 = no 14 0 (omega arith); is_13 = no 14 13 (omega arith); is_14 = λ h. (refl, refl); is_15 = no 14 15 (omega arith); is_16 = no 14 16 (omega arith) }
said true false c d e = record { counted = λ h. refl; is_0 = no 13 0 (omega arith); is_13 = λ h. refl; is_14 = no 13 14 (omega arith); is_15 = no 13 15 (omega arith); is_16 = no 13 16 (omega arith) }
said false b c d e = record { counted = λ h. absurd (omega arith); is_0 = no 12 0 (omega arith); is_13 = no 12 13 (omega arith); is_14 = no 12 14 (omega arith); is_15 = no 12 15 (omega arith); is_16 = no 12 16 (omega arith) }

-- 12, 13 or 14 is told before the stretches are looked at
first_told : (a b c d e : Bool) → ¬ (first_refusal a b c true true ≡ 0) → first_refusal a b c d e ≡ first_refusal a b c true true
unfolding first_refusal
first_told true true true d e h = absurd (h refl)
first_told true true false d e h = refl
first_told true false c d e h = refl
first_told false b c d e h = refl

module _ (spec : Spec) (ps : List Pair) where
  pub shape_told : ¬ (shape_number spec ps ≡ 0) → cycle_number spec ps ≡ shape_number spec ps
  unfolding shape_number cycle_number
  shape_told h = first_told (count_in (length ps)) (gaps_allowed spec ps) (sizes_allowed spec ps) _ _ h

  pub shape_most : shape_number spec ps ≤ 14
  unfolding shape_number first_refusal
  shape_most = pick (count_in (length ps)) (gaps_allowed spec ps) (sizes_allowed spec ps)
    where
      pick : (a b c : Bool) → first_refusal a b c true true ≤ 14
      pick true true true = omega arith
      pick true true false = omega arith
      pick true false c = omega arith
      pick false b c = omega arith

  pub shaped : shape_number spec ps ≡ 0 → (count_in (length ps) ≡ true) × (gaps_allowed spec ps ≡ true) × (sizes_allowed spec ps ≡ true)
  unfolding shape_number
  shaped e = let t = (said (count_in (length ps)) (gaps_allowed spec ps) (sizes_allowed spec ps) true true).is_0 e in (t.0, t.1, t.2)

  -- and else the number is that of a stretch, or none
  pub shape_after : shape_number spec ps ≡ 0 → (cycle_number spec ps ≡ 0) ⊎ ((15 ≤ cycle_number spec ps) × (cycle_number spec ps ≤ 16))
  unfolding cycle_number first_refusal
  shape_after e = let t = shaped e in rw (t.0, t.1, t.2) (pick (supply_kept spec.supply ps) (demand_met spec.demand ps))
    where
      pick : (d e : Bool) → (first_refusal true true true d e ≡ 0) ⊎ ((15 ≤ first_refusal true true true d e) × (first_refusal true true true d e ≤ 16))
      pick true true = inl refl
      pick true false = inr (omega arith, omega arith)
      pick false e = inr (omega arith, omega arith)

-- it is none of the numbers before 12 nor after 16, but 0
pub first_few : (a b c d e : Bool) → first_refusal a b c d e ≤ 16
unfolding first_refusal
first_few true true true true true = omega arith
first_few true true true true false = omega arith
first_few true true true false e = omega arith
first_few true true false d e = omega arith
first_few true false c d e = omega arith
first_few false b c d e = omega arith

-- where a gap of 0 is not allowed, one that is allowed is none
pub judged_later : (spec : Spec) → gap_allowed spec 0 ≡ false → (g : ℕ) → gap_allowed spec g ≡ true → 1 ≤ g
judged_later spec none g e =
    let some : ¬ (g ≡ 0) = λ z. let zero = rw z at e in absurd (let y : ◌≡◌ {A = ℕ} 0 1 = cc in omega arith) in
    omega arith

-- pairs that got as far as their stretches
pub walkable : (spec : Spec) (ps : List Pair) → Judges spec → count_in (length ps) ≡ true → gaps_allowed spec ps ≡ true → Walkable ps
walkable spec ps judges count gaps =
    let k = count_in_true (length ps) count in
    let allowed = (gaps_right ps k.0 spec).0 gaps in
    record { some = k.0; few = k.1; later = λ i. judged_later spec judges.gaps ((cycle_run ps).gap i) (allowed i) }
