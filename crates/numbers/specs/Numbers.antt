-- What documents 01 and 02 use of numbers and do not explain.
use Rattle.std.specs.Prelude.{ℕ, zero, suc, ◌+◌, ◌-◌, ◌/◌, Bool, true, false}

-- ⌈a/b⌉
unfoldable pub ceil : ℕ → ℕ → ℕ
ceil a b = (a + (b - 1)) / b

-- f 0, .., f (n - 1) are all true
unfoldable pub all : (ℕ → Bool) → ℕ → Bool
all f zero = true
all f (suc n) = elim (f n) [ true ↦ all f n | false ↦ false ]

-- the first of the n numbers from i on of which f is true; i + n where it is true of none
unfoldable pub first : (ℕ → Bool) → ℕ → ℕ → ℕ
first f zero i = i
first f (suc n) i = elim (f i) [ true ↦ i | false ↦ first f n (i + 1) ]
