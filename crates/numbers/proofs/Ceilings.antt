-- Division rounded up: n is below ⌈a/b⌉ exactly when n × b is below a.
use Prim.Native.Nat.{ℕ, ◌+◌, ◌-◌, ◌*◌, ◌/◌, ◌≤◌, ◌<◌}
use native.Mathlib.Omega.{arith}
use native.Mathlib.Nat.{lt_of_mul-lt-mul_right, le-div_iff_mul-le, add-mul, one-mul, div-le_self, div-zero, div-eq_of_lt-le, div-mul-le_self, lt-div-mul-add, mul-le-mul_left, mul-le-mul_right, mul-one, suc-mul, mul-add-div_right, add_assoc, add-zero, div-eq_of_lt, mul-div_cancel}
use mathlib.Core.Path.{◌≡◌}
use mathlib.Core.Logic.{◌↔◌, ⊎_elim}
use Rattle.std.specs.Int.{div_ceil}
use Rattle.std.proofs.lemmas.Grind.{div_ceil_times}
use Rattle.numbers.proofs.Cases.{lt_cases}
use Rattle.numbers.specs.Numbers.{ceil}

pub lt_ceil_iff : (a b n : ℕ) → 0 < b → (n < ceil a b) ↔ (n * b < a)
unfolding ceil
lt_ceil_iff a b n pos =
    let e : (n + 1) * b ≡ n * b + b = rw (add-mul, one-mul) in
    let d = le-div_iff_mul-le {k = b} {x = n + 1} {y = a + (b - 1)} pos in
    (λ h. let x = d.0 (omega arith) in omega arith, λ h. let x = d.1 (omega arith) in omega arith)

pub ceil_le_iff : (a b n : ℕ) → 0 < b → (ceil a b ≤ n) ↔ (a ≤ n * b)
ceil_le_iff a b n pos =
    let d = lt_ceil_iff a b n pos in
    (λ h. let x : ¬ (n * b < a) = λ q. let y = d.1 q in omega arith in omega arith, λ h. let x : ¬ (n < ceil a b) = λ q. let y = d.0 q in omega arith in omega arith)

-- a bound that is enough for sums and products to fit
pub ceil_most : (a b : ℕ) → ceil a b ≤ a + (b - 1)
unfolding ceil
ceil_most a b = div-le_self (a + (b - 1)) b

pub ceil_bound : {n a b : ℕ} (x y : ℕ) → n ≡ ceil a b → a ≤ x → b ≤ y → n ≤ x + y
ceil_bound {n} {a} {b} x y e h k = omega (arith, ceil_most a b)

pub ceil_zero : (a : ℕ) → ceil a 0 ≡ 0
unfolding ceil
ceil_zero a = div-zero (a + (0 - 1))

-- ⌈a/b⌉ is ⌊a/b⌋ where b divides a, and one more where it does not
pub ceil_whole : (a b : ℕ) → 0 < b → a / b * b ≡ a → ceil a b ≡ a / b
unfolding ceil
ceil_whole a b pos e =
    let next : (a / b + 1) * b ≡ a / b * b + b = rw (add-mul, one-mul) in
    div-eq_of_lt-le {k = a / b} b {m = a + (b - 1)} (omega arith) (omega arith)

pub ceil_part : (a b : ℕ) → 0 < b → ¬ (a / b * b ≡ a) → ceil a b ≡ a / b + 1
unfolding ceil
ceil_part a b pos e =
    let next : (a / b + 1) * b ≡ a / b * b + b = rw (add-mul, one-mul) in
    let third : (a / b + 1 + 1) * b ≡ (a / b + 1) * b + b = rw (add-mul, one-mul) in
    let least = div-mul-le_self a b in
    let most = lt-div-mul-add {a = a} {b = b} pos in
    div-eq_of_lt-le {k = a / b + 1} b {m = a + (b - 1)} (omega arith) (omega arith)

-- a quotient that leaves something over is below what is divided
pub quotient_below : (a b : ℕ) → 0 < b → ¬ (a / b * b ≡ a) → a / b < a
quotient_below a b pos e =
    let least = div-mul-le_self a b in
    let grows : a / b * 1 ≤ a / b * b = mul-le-mul_left (a / b) (omega arith) in
    let one : a / b * 1 ≡ a / b = mul-one (a / b) in
    omega arith

-- Of reports with one gap g between them ⌈t/g⌉ come before minute t: the laws by which these are counted.
module _ (g : ℕ) (pos : 0 < g) where
  -- ⌈t/g⌉ × g reaches t, and is less than g above it
  pub ceil_reach : (t : ℕ) → t ≤ ceil t g * g
  ceil_reach t = ⊎_elim (λ h. absurd (let r = (lt_ceil_iff t g (ceil t g) pos).1 h in omega arith)) (λ h. h) (lt_cases (ceil t g * g) t)

  pub ceil_tight : (t : ℕ) → ceil t g * g ≤ t + (g - 1)
  unfolding ceil
  ceil_tight t = div-mul-le_self (t + (g - 1)) g

  pub ceil_le_self : (t : ℕ) → ceil t g ≤ t
  ceil_le_self t =
      ⊎_elim
      (λ h. absurd (let r = (lt_ceil_iff t g t pos).0 h in let k = mul-le-mul_left t pos in omega (arith, mul-one t)))
      (λ h. h)
      (lt_cases t (ceil t g))

  -- no w minutes have more than ⌈w/g⌉ reports, and none fewer than ⌊w/g⌋
  pub ceil_add_most : (a w : ℕ) → ceil (a + w) g ≤ ceil a g + ceil w g
  ceil_add_most a w =
      ⊎_elim
      (λ h.
      absurd
      (let r = (lt_ceil_iff (a + w) g (ceil a g + ceil w g) pos).0 h in
      omega (arith, add-mul (ceil a g) (ceil w g) g, ceil_reach a, ceil_reach w)))
      (λ h. h)
      (lt_cases (ceil a g + ceil w g) (ceil (a + w) g))

  pub ceil_add_least : (a w : ℕ) → ceil a g + w / g ≤ ceil (a + w) g
  ceil_add_least a w = ⊎_elim (λ h. absurd (over h)) (λ h. h) (lt_cases (ceil (a + w) g) (ceil a g + w / g))
    where
      over : ceil (a + w) g < ceil a g + w / g → ⊥
      over h =
          let k = rw (suc-mul, add-mul) at (mul-le-mul_right g h) in
          omega (arith, ceil_reach (a + w), ceil_tight a, div-mul-le_self w g)

  -- before report j, before the minute after it, and before a minute later than these
  pub ceil_times : (j : ℕ) → ceil (j * g) g ≡ j
  unfolding ceil
  ceil_times j = rw (mul-add-div_right pos j (g - 1), div-eq_of_lt {n = g - 1} {m = g} (omega arith), add-zero)

  pub ceil_times_add : (j r : ℕ) → ceil (j * g + r) g ≡ j + ceil r g
  unfolding ceil
  ceil_times_add j r = rw (add_assoc (j * g) r (g - 1), mul-add-div_right pos j (r + (g - 1)))

  pub ceil_after : (j : ℕ) → ceil (j * g + 1) g ≡ j + 1
  unfolding ceil
  ceil_after j =
      let u : j * g + 1 + (g - 1) ≡ (j + 1) * g = omega (arith, add-mul j 1 g) in
      rw (u, mul-div_cancel (j + 1) pos)

  pub ceil_after_add : (j p : ℕ) → ceil (j * g + 1 + p) g ≡ j + 1 + p / g
  unfolding ceil
  ceil_after_add j p =
      let v : j * g + 1 + p + (g - 1) ≡ (j + 1) * g + p = omega (arith, add-mul j 1 g) in
      rw (v, mul-add-div_right pos (j + 1) p)

-- it only falls as what divides grows
pub ceil_falls : (r t s : ℕ) → 0 < t → t ≤ s → ceil r s ≤ ceil r t
ceil_falls r t s pos h =
    ⊎_elim
    (λ q.
    absurd
    (let a : ceil r t * s < r = (lt_ceil_iff r s (ceil r t) (omega arith)).0 q in
    let b : ceil r t < ceil r t = (lt_ceil_iff r t (ceil r t) pos).1 (omega (arith, mul-le-mul_left (ceil r t) h)) in
    omega arith))
    (λ q. q)
    (lt_cases (ceil r t) (ceil r s))

-- std's quotient rounded up is `ceil`, where the divisor is no 0
pub div_ceil_is : (a b : ℕ) → 0 < b → div_ceil a b ≡ ceil a b
div_ceil_is a b pos =
    let d = div_ceil a b in
    let times = div_ceil_times a b pos in
    let next : (ceil a b + 1) * b ≡ ceil a b * b + b = rw (add-mul, one-mul) in
    let most : ceil a b ≤ d = (ceil_le_iff a b d pos).1 times.0 in
    let least : d < ceil a b + 1 = lt_of_mul-lt-mul_right b (omega (arith, times.1, ceil_reach b pos a)) in
    omega arith
