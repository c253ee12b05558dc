-- How the largest gap is looked for: through the second range, then through the first. No part of what the even plan is: `even_gap` of
-- Even.antt says that, and proofs/Jumps.antt, proofs/Search.antt and proofs/BothRanges.antt show that this search ends at it. What a gap is
-- looked for by is a test of gaps: that of the even plan is `fits`, and the box plan has another.
use Rattle.std.specs.Prelude.{ℕ, zero, suc, ◌+◌, ◌≤◌, ◌<◌, Bool, true, false, ◌&&◌, leb, Option, None, Some}
use Rattle.spec.specs.declared.Rate.{Rate}
use Rattle.spec.specs.declared.Range.{Range}
use Rattle.spec.specs.declared.Spec.{Spec}
use Rattle.spec.specs.Limits.{range_of, between, IsAccepted}
use Rattle.even.specs.Even.{largest}
use Rattle.even.specs.Jump.{next_gap}

-- the largest gap of one range, lo to hi, that passes; 0 where none does
unfoldable pub largest_in : (ℕ → Bool) → ℕ → ℕ → ℕ
largest_in ok lo hi = largest (λ s. between lo hi s && ok s) hi

-- of a range that may be absent
unfoldable pub largest_of : (ℕ → Bool) → Option Range → ℕ
largest_of ok None = 0
largest_of ok (Some x) = largest_in ok x.min x.max

-- how many gaps of lo and above are tried from s down where every one fails, counted up to n
unfoldable pub tries : Option Rate → ℕ → ℕ → ℕ → ℕ
tries d lo zero s = 0
tries d lo (suc n) s = elim (leb lo s) [ true ↦ suc (tries d lo n (next_gap d s)) | false ↦ 0 ]

-- of a range that may be absent
unfoldable pub tries_of : Option Rate → Option Range → ℕ → ℕ
tries_of d None n = 0
tries_of d (Some x) n = tries d x.min n x.max

-- For an accepted specification the search of one range tries at most 284 gaps, of up to 20,160, and the searches of both together 285.
-- Proved in proofs/Tries.antt.
abbrev pub FewTries : Type 0
FewTries =
    (spec : Spec) → IsAccepted spec → (n : ℕ)
    → ((lo hi : ℕ) → 0 < lo → tries spec.demand lo n hi ≤ 284)
    × (tries_of spec.demand spec.second n + tries_of spec.demand (Some (range_of spec.smin spec.smax)) n ≤ 285)
