-- Numbers f i = q + x (i % k), a quotient and an extra that repeats after k, and their sums, where X v = x 0 + .. + x (v - 1) within a
-- period. Two such sums against the sum over both counts differ by X alone.
use Prim.Native.Nat.{ℕ, zero, suc, ◌+◌, ◌-◌, ◌*◌, ◌/◌, ◌%◌, ◌≤◌, ◌<◌}
use native.Mathlib.Omega.{arith}
use native.Mathlib.Nat.{add_comm, add-mul, zero-mul, one-mul, add-mod_right, mod-eq_of_lt, mod-lt, div-add-mod'}
use native.Mathlib.Numerals.{add-one}
use mathlib.Core.Path.{◌≡◌, ◌∙◌, ap}
use mathlib.Core.Logic.{◌⊎◌, inl, inr, ⊎_elim}
use Rattle.schedule.specs.Schedules.{sum}
use Rattle.numbers.proofs.Cases.{lt_cases}
use Rattle.schedule.proofs.Sums.{sum_none, sum_more, sum_rounds, sum_whole}

pub record Spread (k q : ℕ) (x X f : ℕ → ℕ) : Type 0 where
  pub none : X 0 ≡ 0
  pub more : (v : ℕ) → v < k → X (v + 1) ≡ X v + x v
  pub each : (i : ℕ) → f i ≡ q + x (i % k)

module _ {k q : ℕ} {x X f : ℕ → ℕ} (pos : 0 < k) (d : Spread k q x X f) where
  pub again : (i : ℕ) → f (i + k) ≡ f i
  again i = rw (d.each (i + k), d.each i, add-mod_right)

  -- within a period
  pub sum_in : (v : ℕ) → v ≤ k → sum f v ≡ v * q + X v
  sum_in zero h = omega (arith, sum_none f, d.none, zero-mul q)
  sum_in (suc v) h =
      let m : v % k ≡ v = mod-eq_of_lt (omega arith) in
      let e : f v ≡ q + x v = d.each v ∙ ap (λ (y : ℕ). q + x y) m in
      rw (← add-one v) (omega (arith, sum_more f v, sum_in v (omega arith), e, d.more v (omega arith), add-mul v 1 q, one-mul q))

  -- whole periods, and what is left
  pub sum_at : (u v : ℕ) → v ≤ k → sum f (u * k + v) ≡ u * (k * q + X k) + (v * q + X v)
  sum_at u v h =
      rw (add_comm (u * k) v, sum_rounds f k again v u, sum_in v h, sum_in k (omega arith))
      (add_comm (v * q + X v) (u * (k * q + X k)))

  pub sum_of : (n : ℕ) → sum f n ≡ n / k * (k * q + X k) + (n % k * q + X (n % k))
  sum_of n = sum_whole f k again n ∙ rw (sum_in k (omega arith), sum_in (n % k) (omega (arith, mod-lt n pos)))

  below : (u v : ℕ) → v < k → sum f (u * k + v) ≡ u * (k * q + X k) + v * q + X v
  below u v h = omega (arith, sum_at u v (omega arith))

  beyond : (u v : ℕ) → k ≤ v → v < k + k → sum f (u * k + v) ≡ u * (k * q + X k) + v * q + (X k + X (v - k))
  beyond u v a b =
      let e : u * k + v ≡ (u + 1) * k + (v - k) = omega (arith, add-mul u 1 k) in
      let z : v ≡ v - k + k = omega arith in
      let y : v * q ≡ (v - k) * q + k * q = ap (λ (n : ℕ). n * q) z ∙ add-mul (v - k) k q in
      rw e (omega (arith, sum_at (u + 1) (v - k) (omega arith), add-mul u 1 (k * q + X k), y))

  -- Two sums against the sum of both counts: they differ by X alone.
  pub record Split (whole parts : ℕ) : Type 0 where
    pub common : ℕ
    pub v₁ : ℕ
    pub v₂ : ℕ
    pub small₁ : v₁ < k
    pub small₂ : v₂ < k
    pub two : parts ≡ common + (X v₁ + X v₂)
    pub one : ((v₁ + v₂ < k) × (whole ≡ common + X (v₁ + v₂))) ⊎ ((k ≤ v₁ + v₂) × (whole ≡ common + (X k + X (v₁ + v₂ - k))))

  pub split : (j n : ℕ) → Split (sum f (j + n)) (sum f j + sum f n)
  split j n =
      let u₁ = j / k in
      let v₁ = j % k in
      let u₂ = n / k in
      let v₂ = n % k in
      let t = k * q + X k in
      let s₁ : v₁ < k = mod-lt j pos in
      let s₂ : v₂ < k = mod-lt n pos in
      let e₁ : u₁ * k + v₁ ≡ j = div-add-mod' j k in
      let e₂ : u₂ * k + v₂ ≡ n = div-add-mod' n k in
      record {
        common = (u₁ + u₂) * t + (v₁ + v₂) * q;
        v₁ = v₁;
        v₂ = v₂;
        small₁ = s₁;
        small₂ = s₂;
        two = omega (arith, sum_of j, sum_of n, add-mul u₁ u₂ t, add-mul v₁ v₂ q);
        one =
            let e : j + n ≡ (u₁ + u₂) * k + (v₁ + v₂) = omega (arith, add-mul u₁ u₂ k) in
            ⊎_elim
            (λ h. inl (h, rw e (below (u₁ + u₂) (v₁ + v₂) h)))
            (λ h. inr (h, rw e (beyond (u₁ + u₂) (v₁ + v₂) h (omega arith))))
            (lt_cases (v₁ + v₂) k);
      }
