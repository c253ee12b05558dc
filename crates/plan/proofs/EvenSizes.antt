-- The sizes of the even kind. How `even_first` is rounded, only `first_sub`, `first_fits` and `first_least` know, and the rest goes by them: a
-- block of n neighbours holds n × δ/k records, rounded down or up, whatever report it starts at, and just δ where n is k; none holds more
-- than the first n reports, which is what rounding up is for.
use Prim.Native.Nat.{ℕ, zero, suc, ◌+◌, ◌-◌, ◌*◌, ◌/◌, ◌≤◌, ◌<◌}
use native.Mathlib.Omega.{arith}
use native.Mathlib.Nat.{le-div_iff_mul-le, add-mul, add-zero, zero-add, add_assoc, add_right_comm, zero-mul, mul-zero, one-mul, mul_comm, div-mul-le_self}
use native.Mathlib.Numerals.{add-one}
use mathlib.Core.Path.{◌≡◌, refl, sym, ◌∙◌}
use Rattle.numbers.specs.Numbers.{ceil}
use Rattle.numbers.proofs.Ceilings.{ceil_le_iff, ceil_reach, ceil_add_most, ceil_add_least}
use Rattle.schedule.specs.Schedules.{sum}
use Rattle.schedule.proofs.Sums.{sum_block, block, block_none, block_more, block_one}
use Rattle.plan.specs.Plans.{even_first, even_size}

module _ (k δ : ℕ) (pos : 0 < k) where
  -- no n neighbours hold more than the first n
  first_sub : (lo n : ℕ) → even_first k δ (lo + n) ≤ even_first k δ lo + even_first k δ n
  unfolding even_first
  first_sub lo n = rw add-mul (ceil_add_most k pos (lo * δ) (n * δ))

  -- these hold at most b where n × δ ≤ k × b, and n neighbours at least b where k × b ≤ n × δ
  first_fits : (b n : ℕ) → n * δ ≤ k * b → even_first k δ n ≤ b
  unfolding even_first
  first_fits b n h = (ceil_le_iff (n * δ) k b pos).1 (rw (mul_comm b k) h)

  first_least : (b lo n : ℕ) → k * b ≤ n * δ → even_first k δ lo + b ≤ even_first k δ (lo + n)
  unfolding even_first
  first_least b lo n h =
      let quotient : b ≤ n * δ / k = (le-div_iff_mul-le pos).1 (rw (mul_comm b k) h) in
      rw add-mul (omega (arith, ceil_add_least k pos (lo * δ) (n * δ)))

  first_none : even_first k δ 0 ≡ 0
  first_none = omega (arith, first_fits 0 0 (rw zero-mul (omega arith)))

  pub first_more : (i : ℕ) → even_first k δ i ≤ even_first k δ (i + 1)
  first_more i = omega (arith, first_least 0 i 1 (rw mul-zero (omega arith)))

  even_block : (lo n : ℕ) → even_first k δ lo + block (even_size k δ) lo n ≡ even_first k δ (lo + n)
  even_block lo zero = rw (block_none, add-zero, add-zero)
  even_block lo (suc n) =
      let ih : even_first k δ lo + block (even_size k δ) lo n ≡ even_first k δ (lo + n) = even_block lo n in
      let e : even_size k δ (lo + n) ≡ even_first k δ (lo + n + 1) - even_first k δ (lo + n) = unfold even_size in refl in
      rw (← add-one n, block_more, ← add_assoc lo n 1) (omega (arith, first_more (lo + n)))

  -- the records of the first n reports
  pub even_sum : (n : ℕ) → sum (even_size k δ) n ≡ even_first k δ n
  even_sum n = sum_block (even_size k δ) n ∙ rw (first_none, zero-add, zero-add) at (even_block 0 n)

  -- no row of reports holds more than as many from the first on
  pub even_sub : (j n : ℕ) → sum (even_size k δ) (j + n) ≤ sum (even_size k δ) j + sum (even_size k δ) n
  even_sub j n = rw (even_sum (j + n), even_sum j, even_sum n) (first_sub j n)

  pub even_block_most : (b lo n : ℕ) → n * δ ≤ k * b → block (even_size k δ) lo n ≤ b
  even_block_most b lo n h = omega (arith, even_block lo n, first_sub lo n, first_fits b n h)

  pub even_block_least : (b lo n : ℕ) → k * b ≤ n * δ → b ≤ block (even_size k δ) lo n
  even_block_least b lo n h = omega (arith, even_block lo n, first_least b lo n h)

  pub even_size_most : (b i : ℕ) → δ ≤ k * b → even_size k δ i ≤ b
  even_size_most b i h = rw block_one at (even_block_most b i 1 (rw one-mul h))

  pub even_size_least : (b i : ℕ) → k * b ≤ δ → b ≤ even_size k δ i
  even_size_least b i h = rw block_one at (even_block_least b i 1 (rw one-mul h))

  -- k neighbours hold δ, so the sizes repeat
  pub even_round : (lo : ℕ) → block (even_size k δ) lo k ≡ δ
  even_round lo = omega (arith, even_block_most δ lo k (omega arith), even_block_least δ lo k (omega arith))

  pub even_again : (i : ℕ) → even_size k δ (i + k) ≡ even_size k δ i
  unfolding even_size
  even_again i =
      let later : (n : ℕ) → even_first k δ (n + k) ≡ even_first k δ n + δ = λ n. sym (even_block n k) ∙ rw (even_round n) in
      rw (add_right_comm i k 1, later i, later (i + 1)) (omega arith)

  -- n neighbours hold n × δ/k records, rounded down or up
  pub even_block_range : (lo n : ℕ) → (n * δ / k ≤ block (even_size k δ) lo n) × (block (even_size k δ) lo n ≤ ceil (n * δ) k)
  even_block_range lo n = (
    even_block_least (n * δ / k) lo n (rw (mul_comm k (n * δ / k)) (div-mul-le_self (n * δ) k)),
    even_block_most (ceil (n * δ) k) lo n (rw (mul_comm k (ceil (n * δ) k)) (ceil_reach k pos (n * δ))),
  )
