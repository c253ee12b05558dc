-- Sizes and gaps of the well-formed kind: what the first n of them add up to. The larger sizes come first in a period, so that no row
-- of reports holds more than as many from the first on; the longer gaps come last, so that none takes less time.
use Prim.Native.Nat.{ℕ, ◌+◌, ◌-◌, ◌*◌, ◌/◌, ◌%◌, ◌≤◌, ◌<◌, min}
use native.Mathlib.Omega.{arith}
use native.Mathlib.Nat.{mod-lt, div-add-mod, le-div_iff_mul-le, mul_comm, lt_of_mul-lt-mul_left, div-le_of_le-mul}
use mathlib.Core.Path.{◌≡◌, refl, ◌∙◌}
use mathlib.Core.Logic.{⊎_elim}
use mathlib.Core.Bool.{Bool, true, false, cond}
use lib.Dec.{leb, ltb}
use borrow.Author.Tests.{lt-ltb, le-ltb, le-leb, lt-leb, ltb-true, leb-true}
use Rattle.schedule.specs.Schedules.{sum}
use Rattle.numbers.proofs.Cases.{lt_cases}
use Rattle.plan.specs.Plans.{well_size, well_gap}
use Rattle.plan.proofs.Periods.{Spread, again, sum_in, sum_of, split}

module _ (k : ℕ) (pos : 0 < k) where
  -- the quotient, or one more where there is a remainder
  in_range : (n lo hi : ℕ) (t : Bool) → k * lo ≤ n → n ≤ k * hi → (t ≡ true → 0 < n % k) → (lo ≤ n / k + cond t 1 0) × (n / k + cond t 1 0 ≤ hi)
  in_range n lo hi true a b h =
      let q : lo ≤ n / k = (le-div_iff_mul-le pos).1 (rw mul_comm a) in
      let u : n / k < hi = lt_of_mul-lt-mul_left k (omega (arith, div-add-mod n k, h refl)) in
      (omega arith, omega arith)
  in_range n lo hi false a b h =
      let q : lo ≤ n / k = (le-div_iff_mul-le pos).1 (rw mul_comm a) in
      (omega arith, omega (arith, div-le_of_le-mul k b))

  -- the larger sizes come first
  module _ (δ : ℕ) where
    sizes : Spread k (δ / k) (λ v. cond (ltb v (δ % k)) 1 0) (λ v. min v (δ % k)) (well_size k δ)
    unfolding well_size
    sizes = record {
      none = omega arith;
      more = λ v h.
          ⊎_elim (λ q. rw (lt-ltb v (δ % k) q) (omega arith)) (λ q. rw (le-ltb v (δ % k) q) (omega arith)) (lt_cases v (δ % k));
      each = λ i. refl;
    }

    pub size_again : (i : ℕ) → well_size k δ (i + k) ≡ well_size k δ i
    size_again = again pos sizes

    all_larger : k * (δ / k) + min k (δ % k) ≡ δ
    all_larger = omega (arith, mod-lt δ pos, div-add-mod δ k)

    pub size_total : sum (well_size k δ) k ≡ δ
    size_total = sum_in pos sizes k (omega arith) ∙ all_larger

    -- the records of the first n reports: whole periods, and what is left
    pub size_sum : (n : ℕ) → sum (well_size k δ) n ≡ n / k * δ + (n % k * (δ / k) + min (n % k) (δ % k))
    size_sum n = rw all_larger at (sum_of pos sizes n)

    pub size_sub : (j n : ℕ) → sum (well_size k δ) (j + n) ≤ sum (well_size k δ) j + sum (well_size k δ) n
    size_sub j n =
        let s = split pos sizes j n in
        let e : δ % k < k = mod-lt δ pos in
        ⊎_elim (λ a. omega arith) (λ b. omega arith) s.one

    -- a size in range, where δ is
    pub size_range : (lo hi : ℕ) → k * lo ≤ δ → δ ≤ k * hi → (i : ℕ) → (lo ≤ well_size k δ i) × (well_size k δ i ≤ hi)
    unfolding well_size
    size_range lo hi a b i = in_range δ lo hi (ltb (i % k) (δ % k)) a b (λ t. omega (arith, ltb-true (i % k) (δ % k) t))

  -- the longer gaps come last
  module _ (π : ℕ) where
    gaps : Spread k (π / k) (λ v. cond (leb (k - π % k) v) 1 0) (λ v. v - (k - π % k)) (well_gap k π)
    unfolding well_gap
    gaps = record {
      none = omega arith;
      more = λ v h.
          ⊎_elim (λ q. rw (lt-leb (k - π % k) v q) (omega arith)) (λ q. rw (le-leb (k - π % k) v q) (omega arith)) (lt_cases v (k - π % k));
      each = λ i. refl;
    }

    pub gap_again : (i : ℕ) → well_gap k π (i + k) ≡ well_gap k π i
    gap_again = again pos gaps

    all_longer : k * (π / k) + (k - (k - π % k)) ≡ π
    all_longer = omega (arith, mod-lt π pos, div-add-mod π k)

    pub gap_total : sum (well_gap k π) k ≡ π
    gap_total = sum_in pos gaps k (omega arith) ∙ all_longer

    -- the minute of report n: whole periods, and the gaps before it in its own
    pub gap_sum : (n : ℕ) → sum (well_gap k π) n ≡ n / k * π + (n % k * (π / k) + (n % k - (k - π % k)))
    gap_sum n = rw all_longer at (sum_of pos gaps n)

    pub gap_super : (j n : ℕ) → sum (well_gap k π) j + sum (well_gap k π) n ≤ sum (well_gap k π) (j + n)
    gap_super j n =
        let s = split pos gaps j n in
        let e : π % k < k = mod-lt π pos in
        ⊎_elim (λ a. omega arith) (λ b. omega arith) s.one

    pub gap_range : (lo hi : ℕ) → k * lo ≤ π → π ≤ k * hi → (i : ℕ) → (lo ≤ well_gap k π i) × (well_gap k π i ≤ hi)
    unfolding well_gap
    gap_range lo hi a b i =
        in_range π lo hi (leb (k - π % k) (i % k)) a b (λ t. omega (arith, leb-true (k - π % k) (i % k) t, mod-lt i pos))
