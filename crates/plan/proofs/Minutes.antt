-- The minutes of a period's reports, and how many of them lie before one, in closed form. With f = ⌊π/k⌋, of which the last gaps are one
-- minute longer, report j of a period is j × f minutes after its start, or j × (f + 1) less the number of shorter gaps, whichever is
-- later. So it lies before a minute exactly when j is below two quotients rounded up.
use Prim.Native.Nat.{ℕ, ◌+◌, ◌-◌, ◌*◌, ◌/◌, ◌%◌, ◌≤◌, ◌<◌, min}
use native.Mathlib.Omega.{arith}
use native.Mathlib.Nat.{mod-lt, div-add-mod, mul-add, mul-one, one-mul, add-mul, mul-le-mul_right, le-div_iff_mul-le}
use mathlib.Core.Path.{◌≡◌}
use mathlib.Core.Logic.{◌↔◌, ⊎_elim}
use Rattle.numbers.specs.Numbers.{ceil}
use Rattle.numbers.proofs.Ceilings.{lt_ceil_iff}
use Rattle.numbers.proofs.Cases.{lt_cases}

-- the minutes of report j after the start of its period
unfoldable pub within : ℕ → ℕ → ℕ → ℕ
within k π j = j * (π / k) + (j - (k - π % k))

-- the reports of a period before minute r of it
unfoldable pub within_before : ℕ → ℕ → ℕ → ℕ
within_before k π r = min (ceil r (π / k)) (ceil (r + (k - π % k)) (π / k + 1))

module _ (k π : ℕ) (pos : 0 < k) (long : k ≤ π) where
  gap_some : 0 < π / k
  gap_some = (le-div_iff_mul-le {k = k} {x = 1} {y = π} pos).1 (omega (arith, one-mul k))

  within_iff : (r j : ℕ) → within k π j < r ↔ j < within_before k π r
  unfolding within within_before
  within_iff r j =
      let e : j * (π / k + 1) ≡ j * (π / k) + j = rw (mul-add, mul-one) in
      let short = lt_ceil_iff r (π / k) j gap_some in
      let long = lt_ceil_iff (r + (k - π % k)) (π / k + 1) j (omega arith) in (
        λ q. let a = short.1 (omega arith) in let b = long.1 (omega arith) in omega arith,
        λ q. let a = short.0 (omega arith) in let b = long.0 (omega arith) in omega arith,
      )

  -- report k is the first of the next period
  within_period : within k π k ≡ π
  unfolding within
  within_period = omega (arith, div-add-mod π k, mod-lt π pos)

  within_inside : (j : ℕ) → j < k → within k π j < π
  unfolding within
  within_inside j h =
      let m : (j + 1) * (π / k) ≤ k * (π / k) = mul-le-mul_right (π / k) (omega arith) in
      omega (arith, add-mul j 1 (π / k), one-mul (π / k), gap_some, div-add-mod π k, mod-lt π pos)

  few : (r : ℕ) → r ≤ π → within_before k π r ≤ k
  few r h = ⊎_elim (λ q. absurd (let x = (within_iff r k).1 q in omega (arith, within_period))) (λ q. q) (lt_cases k (within_before k π r))

  -- report j of period u lies before minute r of period q: in an earlier period, or in the same one before r
  pub period_iff : (q r : ℕ) → r < π → (u j : ℕ) → j < k → u * π + within k π j < q * π + r ↔ u * k + j < q * k + within_before k π r
  period_iff q r part u j h =
      ⊎_elim
      (λ a.
      let x : (u + 1) * π ≤ q * π = mul-le-mul_right π (omega arith) in
      let y : (u + 1) * k ≤ q * k = mul-le-mul_right k (omega arith) in
      (λ z. omega (arith, add-mul u 1 k, one-mul k), λ z. omega (arith, add-mul u 1 π, one-mul π, within_inside j h)))
      (λ a.
      ⊎_elim
      (λ b.
      let x : (q + 1) * π ≤ u * π = mul-le-mul_right π (omega arith) in
      let y : (q + 1) * k ≤ u * k = mul-le-mul_right k (omega arith) in
      (λ z. absurd (omega (arith, add-mul q 1 π, one-mul π)), λ z. absurd (omega (arith, add-mul q 1 k, one-mul k, few r (omega arith)))))
      (λ b.
      let e : u ≡ q = omega arith in
      let w = within_iff r j in
      rw e (λ z. omega (arith, w.0 (omega arith)), λ z. omega (arith, w.1 (omega arith))))
      (lt_cases q u))
      (lt_cases u q)
