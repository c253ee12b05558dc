-- Sums f 0 + .. + f (n - 1), and blocks: the sum of n neighbours from any place on. Of numbers that repeat, a sum is one of whole
-- rounds and a rest: the law by which minutes, records and all that is added up over rounds go.
use Prim.Native.Nat.{ℕ, zero, suc, ◌+◌, ◌-◌, ◌*◌, ◌/◌, ◌%◌, ◌≤◌, ◌<◌}
use native.Mathlib.Omega.{arith}
use native.Mathlib.Nat.{add_assoc, add-zero, zero-add, add_comm, add_right_comm, suc-mul, zero-mul, mod-add-div'}
use native.Mathlib.Numerals.{add-one}
use mathlib.Core.Path.{◌≡◌, refl, sym, ◌∙◌, ap}
use mathlib.Core.Logic.{⊎_elim}
use Rattle.numbers.proofs.Cases.{lt_cases}
-- for the crates above, which take it from here
use Rattle.schedule.specs.Schedules.{sum, InRounds}

pub sum_none : (f : ℕ → ℕ) → sum f 0 ≡ 0
unfolding sum
sum_none f = refl

pub sum_more : (f : ℕ → ℕ) (n : ℕ) → sum f (n + 1) ≡ sum f n + f n
unfolding sum
sum_more f n = rw add-one

pub sum_same : (f g : ℕ → ℕ) (n : ℕ) → ((i : ℕ) → i < n → f i ≡ g i) → sum f n ≡ sum g n
unfolding sum
sum_same f g zero h = refl
sum_same f g (suc n) h = rw (sum_same f g n (λ i q. h i (omega arith)), h n (omega arith))

pub sum_const : (g n : ℕ) → sum (λ i. g) n ≡ n * g
sum_const g zero = rw (sum_none (λ i. g), zero-mul)
sum_const g (suc n) = rw (← add-one n, sum_more (λ i. g) n, sum_const g n, add-one, suc-mul)

-- f lo + .. + f (lo + n - 1)
unfoldable pub block : (ℕ → ℕ) → ℕ → ℕ → ℕ
block f lo n = sum (λ j. f (lo + j)) n

module _ (f : ℕ → ℕ) where
  pub block_none : (lo : ℕ) → block f lo 0 ≡ 0
  unfolding block
  block_none lo = sum_none (λ j. f (lo + j))

  pub block_more : (lo n : ℕ) → block f lo (n + 1) ≡ block f lo n + f (lo + n)
  unfolding block
  block_more lo n = sum_more (λ j. f (lo + j)) n

  pub block_add : (lo m n : ℕ) → block f lo (m + n) ≡ block f lo m + block f (lo + m) n
  block_add lo m zero = rw (add-zero, block_none (lo + m), add-zero)
  block_add lo m (suc n) =
      let ih : block f lo (m + n) ≡ block f lo m + block f (lo + m) n = block_add lo m n in
      rw (← add-one n, ← add_assoc m n 1, block_more lo (m + n), ih, block_more (lo + m) n, add_assoc lo m n, add_assoc (block f lo m))

  pub block_one : (lo : ℕ) → block f lo 1 ≡ f lo
  block_one lo = rw (← zero-add 1, block_more lo 0, block_none, zero-add, add-zero)

  pub block_first : (lo n : ℕ) → block f lo (1 + n) ≡ f lo + block f (lo + 1) n
  block_first lo n = rw (block_add lo 1 n, block_one)

  pub block_most : (b : ℕ) → ((i : ℕ) → f i ≤ b) → (lo n : ℕ) → block f lo n ≤ n * b
  block_most b h lo zero = omega (arith, block_none lo)
  block_most b h lo (suc n) = rw (← add-one n, block_more lo n) (rw (add-one n, suc-mul) (omega (arith, block_most b h lo n, h (lo + n))))

  pub block_least : (b : ℕ) → ((i : ℕ) → b ≤ f i) → (lo n : ℕ) → n * b ≤ block f lo n
  block_least b h lo zero = rw zero-mul (omega arith)
  block_least b h lo (suc n) = rw (← add-one n, block_more lo n) (rw (add-one n, suc-mul) (omega (arith, block_least b h lo n, h (lo + n))))

  -- a part holds no more than the whole
  pub block_part : (lo m n : ℕ) → m ≤ n → block f lo m ≤ block f lo n
  block_part lo m n h =
      let e : n ≡ m + (n - m) = omega arith in
      rw e (omega (arith, block_add lo m (n - m)))

  -- one that holds something has some part
  pub block_some : (lo n b : ℕ) → b < block f lo n → 0 < n
  block_some lo zero b h = absurd (omega (arith, block_none lo))
  block_some lo (suc n) b h = omega arith

  -- of q blocks of n laid end to end, one holds more than b where all together hold more than q × b, and one less where they hold less
  pub one_fuller : (b n q lo : ℕ) → q * b < block f lo (q * n) → (i : ℕ) × (b < block f i n)
  one_fuller b n zero lo h = absurd (let k = rw (zero-mul, zero-mul, block_none lo) at h in omega arith)
  one_fuller b n (suc q) lo h =
      let k : q * b + b < block f lo (q * n) + block f (lo + q * n) n = rw (suc-mul, suc-mul, block_add lo (q * n) n) at h in
      ⊎_elim (λ last. (lo + q * n, last)) (λ rest. one_fuller b n q lo (omega arith)) (lt_cases b (block f (lo + q * n) n))

  pub one_thinner : (b n q lo : ℕ) → block f lo (q * n) < q * b → (j : ℕ) × (block f (lo + j) n < b)
  one_thinner b n zero lo h = absurd (let k = rw (zero-mul, zero-mul) at h in omega arith)
  one_thinner b n (suc q) lo h =
      let k : block f lo (q * n) + block f (lo + q * n) n < q * b + b = rw (suc-mul, suc-mul, block_add lo (q * n) n) at h in
      ⊎_elim (λ last. (q * n, last)) (λ rest. one_thinner b n q lo (omega arith)) (lt_cases (block f (lo + q * n) n) b)

-- a sum is the block from 0 on
pub sum_block : (f : ℕ → ℕ) (n : ℕ) → sum f n ≡ block f 0 n
sum_block f zero = rw (sum_none f, block_none f 0)
sum_block f (suc n) = rw (← add-one n, sum_more f n, block_more f 0 n, sum_block f n, zero-add n)

pub sum_add : (f : ℕ → ℕ) (m n : ℕ) → sum f (m + n) ≡ sum f m + block f m n
sum_add f m n = rw (sum_block f (m + n), sum_block f m, block_add f 0 m n, zero-add m)

-- of numbers that repeat after c
pub sum_again : (f : ℕ → ℕ) (c : ℕ) → ((i : ℕ) → f (i + c) ≡ f i) → (i : ℕ) → sum f (i + c) ≡ sum f i + sum f c
sum_again f c h zero = rw (zero-add, sum_none f, zero-add)
sum_again f c h (suc i) =
    let ih : sum f (i + c) ≡ sum f i + sum f c = sum_again f c h i in
    rw (← add-one i, add_right_comm i 1 c, sum_more f (i + c), sum_more f i, h i) (omega arith)

pub sum_rounds : (f : ℕ → ℕ) (c : ℕ) → ((i : ℕ) → f (i + c) ≡ f i) → (i u : ℕ) → sum f (i + u * c) ≡ sum f i + u * sum f c
sum_rounds f c h i zero = rw (zero-mul, zero-mul, add-zero, add-zero)
sum_rounds f c h i (suc u) = rw (suc-mul, suc-mul, ← add_assoc i (u * c) c, sum_again f c h (i + u * c), sum_rounds f c h i u, add_assoc (sum f i))

-- a block of one round holds what the first round does
pub block_round : (f : ℕ → ℕ) (c : ℕ) → ((i : ℕ) → f (i + c) ≡ f i) → (i : ℕ) → block f i c ≡ sum f c
block_round f c h i = omega (arith, sum_add f i c, sum_again f c h i)

-- and any number of rounds later each is the same
pub rounds_again : (f : ℕ → ℕ) (c : ℕ) → ((i : ℕ) → f (i + c) ≡ f i) → (i q : ℕ) → f (i + q * c) ≡ f i
rounds_again f c h i zero = rw (zero-mul, add-zero)
rounds_again f c h i (suc q) = rw (suc-mul, ← add_assoc i (q * c) c, h (i + q * c)) (rounds_again f c h i q)

-- a block that starts in a later round holds what it holds in the first
pub block_turned : (f : ℕ → ℕ) (c : ℕ) → ((i : ℕ) → f (i + c) ≡ f i) → (i d n : ℕ) → block f (i % c + d) n ≡ block f (i + d) n
unfolding block
block_turned f c h i d n =
    sum_same _ _ n
    (λ j q.
    let z : i % c + d + j + i / c * c ≡ i + d + j = omega (arith, mod-add-div' i c) in
    sym (rounds_again f c h (i % c + d + j) (i / c)) ∙ ap f z)

-- n / c whole rounds, and what is left
pub sum_whole : (f : ℕ → ℕ) (c : ℕ) → ((i : ℕ) → f (i + c) ≡ f i) → InRounds c (sum f)
sum_whole f c h n =
    let e : sum f (n % c + n / c * c) ≡ sum f (n % c) + n / c * sum f c = sum_rounds f c h (n % c) (n / c) in
    let z : n % c + n / c * c ≡ n = mod-add-div' n c in
    rw z at e ∙ add_comm (sum f (n % c)) (n / c * sum f c)
