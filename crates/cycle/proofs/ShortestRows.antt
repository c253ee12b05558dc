-- What the search finds is what the definition gives: a shortest row is one only, and none that shows a refusal needs more reports than its minutes.
use Prim.Native.Nat.{ℕ, ◌+◌, ◌%◌, ◌≤◌, ◌<◌}
use native.Mathlib.Omega.{arith}
use native.Mathlib.Nat.{mod-lt}
use mathlib.Core.Path.{◌≡◌, refl, sym, ◌∙◌, ap}
use mathlib.Core.Bool.{Bool, true, false, cond}
use lib.Dec.{leb, ltb}
use borrow.Author.Tests.{ltb-true, lt-ltb, le-leb, leb-true}
use Rattle.std.specs.Prelude.{Option, None, Some}
use Rattle.numbers.specs.Numbers.{first}
use Rattle.numbers.proofs.Firsts.{IsFirst, first_right, first_passes}
use Rattle.cycle.specs.declared.Row.{Row}
use Rattle.cycle.specs.Shortest.{lowest, shortest, IsShortest}
use Rattle.cycle.specs.Rows.{Best, Found}
use Rattle.cycle.proofs.Rows.{best_found}

module _ (shows : ℕ → ℕ → Bool) (c m : ℕ) where
  -- the test of the definition: whether n reports show it from one of the first c numbers on
  abbrev starts : ℕ → Bool
  starts n = ltb (lowest shows c n) c

  abbrev given : ℕ → Bool → Option Row
  given n few = cond few (Some (record { first = lowest shows c n; reports = n })) None

  -- none is given where none shows it
  none_given : ((i n : ℕ) → ¬ (shows i n ≡ true)) → None ≡ shortest shows c m
  unfolding shortest
  none_given none = pick (leb n m) refl
    where
      n : ℕ
      n = first starts (m + 1) 0

      pick : (t : Bool) → leb n m ≡ t → None ≡ given n t
      pick true e =
          let here : starts n ≡ true = first_passes starts (m + 1) 0 (omega (arith, leb-true n m e)) in
          absurd (none (lowest shows c n) n (first_passes (λ i. shows i n) c 0 (omega (arith, ltb-true (lowest shows c n) c here))))
      pick false e = refl

-- a shortest row is one only
one_only : (shows : ℕ → ℕ → Bool) (c : ℕ) (a b : Row) → IsShortest shows c a → IsShortest shows c b → a ≡ b
one_only shows c a b one other =
    let n : a.reports ≡ b.reports = omega (arith, one.fewest _ _ other.shown, other.fewest _ _ one.shown) in
    let i : a.first ≡ b.first = omega (arith, one.lowest_one b.first (rw n other.shown), other.lowest_one a.first (rw (← n) one.shown)) in
    λ k. record { first = i k; reports = n k }

-- of a run that repeats with the round
module _ (shows : ℕ → ℕ → Bool) (c m : ℕ) (some : 0 < c) (again : (i n : ℕ) → shows (i % c) n ≡ shows i n) where
  -- where some row shows it that is not too long, a shortest one is given: first the fewest reports, then the lowest number
  pub shortest_is : (i n : ℕ) → n ≤ m → shows i n ≡ true → (row : Row) × ((shortest shows c m ≡ Some row) × IsShortest shows c row)
  unfolding shortest
  shortest_is i n few e =
      let starts : ℕ → Bool = λ n. ltb (lowest shows c n) c in
      let low : (i n : ℕ) → i < c → shows i n ≡ true → IsFirst (λ i. shows i n) 0 (lowest shows c n) = λ i n q e. first_right (λ i. shows i n) c 0 i (omega arith) (omega arith) e in
      let here : (i n : ℕ) → i < c → shows i n ≡ true → starts n ≡ true = λ i n q e. lt-ltb _ _ (omega (arith, (low i n q e).least i (omega arith) e)) in
      let k : ℕ = first starts (m + 1) 0 in
      let least = first_right starts (m + 1) 0 n (omega arith) (omega arith) (here (i % c) n (mod-lt i some) (again i n ∙ e)) in
      let inside : lowest shows c k < c = ltb-true _ _ least.passes in
      let best : Best shows c (record { first = lowest shows c k; reports = k }) = record {
        shown = first_passes (λ i. shows i k) c 0 (omega (arith, inside));
        passed = inside;
        fewest = λ i q n e. least.least n (omega arith) (here i n q e);
        lowest_one = λ i q e. (low i k q e).least i (omega arith) e;
      } in (
        record { first = lowest shows c k; reports = k },
        (
          rw (le-leb k m (omega (arith, least.least n (omega arith) (here (i % c) n (mod-lt i some) (again i n ∙ e))))),
          best_found shows c some again (Some (record { first = lowest shows c k; reports = k })) best,
        ),
      )

  -- so what is found is what is given, where no refusal needs a longer row
  pub found_given : ((i n : ℕ) → shows i n ≡ true → (j : ℕ) × ((k : ℕ) × ((k ≤ m) × (shows j k ≡ true)))) → (best : Option Row) → Found shows c best
      → best ≡ shortest shows c m
  found_given few None none = none_given shows c m none
  found_given few (Some row) is =
      let k = few row.first row.reports is.shown in
      let given = shortest_is k.0 k.1.0 k.1.1.0 k.1.1.1 in
      ap (λ (r : Row). Some r) (one_only shows c row given.0 is given.1.1) ∙ sym given.1.0
