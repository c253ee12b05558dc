-- Document 01, "The test. If R ≥ P, take the minimum demand schedule with the least required supply over all k; it passes if that is at
-- most B. Otherwise take the maximum supply schedule with the greatest available supply; it passes if that is at least L. Equal: the
-- smaller k."; and what it turns down: 3, 4, "5 a rate is absent; 7 inconsistent, and this refusal carries the condition that failed
-- first; .. 9 the schedule taken does not pass." Document 02, Req 06: 24, and 25 before 5. Req 07: "Show that under the new condition the
-- test finds some k for every consistent specification with both rates, and take 8 out of the test."
use Rattle.std.specs.Prelude.{ℕ, zero, suc, ◌+◌, ◌-◌, ◌/◌, ◌≤◌, ◌≡◌, Bool, cond, leb, ltb, Result, Ok, Err}
use Rattle.numbers.specs.Numbers.{ceil}
use Rattle.spec.specs.declared.Spec.{Spec}
use Rattle.spec.specs.declared.Rates.{Rates}
use Rattle.spec.specs.Rates.{started, if_rates}
use Rattle.consistency.specs.Consistency.{Failing, refused, consistency_of}
use Rattle.families.specs.declared.Family.{Family}
use Rattle.families.specs.declared.Family.TheVariants.{MinimumDemand, MaximumSupply}
use Rattle.families.specs.declared.Scheduled.{Scheduled}
use Rattle.families.specs.Families.{schedule_of, schedule_with, schedule_for}
use Rattle.plan.specs.declared.Plan.{Plan}

-- "If R ≥ P, take the minimum demand schedule .. Otherwise take the maximum supply schedule"
unfoldable pub family_of : Rates → Family
family_of q = cond (leb q.p q.r) MinimumDemand MaximumSupply

-- the numbers of reports with a schedule: the first that reaches "k × dmax ≥ L", "k × smax ≥ R", and the last that keeps "k × smin ≤ P",
-- "k × dmin ≤ B" (`CountsExact` of Statements.antt)
unfoldable pub first_count : Family → Spec → Rates → ℕ
first_count MinimumDemand s q = ceil q.l s.dmax
first_count MaximumSupply s q = ceil q.r s.smax

unfoldable pub last_count : Family → Spec → Rates → ℕ
last_count MinimumDemand s q = q.p / s.smin
last_count MaximumSupply s q = q.b / s.dmin

-- whether the figure v is better than w: "the least required supply", "the greatest available supply"
unfoldable pub is_better : Family → ℕ → ℕ → Bool
is_better MinimumDemand v w = ltb v w
is_better MaximumSupply v w = ltb w v

-- of the schedule taken so far and the next, the one with the better figure; of equals the one taken so far
unfoldable pub better_of : Family → Scheduled → Scheduled → Scheduled
better_of f best next = cond (is_better f next.supply best.supply) next best

-- the schedule taken among those with `first`, .., `first` + n reports, the smaller numbers first: "Equal: the smaller k."
unfoldable pub taken_from : Family → (ℕ → Scheduled) → ℕ → ℕ → Scheduled
taken_from f schedule first zero = schedule first
taken_from f schedule first (suc n) = better_of f (taken_from f schedule first n) (schedule (first + suc n))

-- "over all k": `taken_best` of proofs/Best.antt says that, where there is a schedule, it is the best of every k without upper end
unfoldable pub taken : Family → Spec → Rates → Scheduled
taken f s q = taken_from f (schedule_with f s q) (first_count f s q) (last_count f s q - first_count f s q)

-- "it passes if that is at most B"; "it passes if that is at least L"
unfoldable pub figure_passes : Family → Rates → ℕ → Bool
figure_passes MinimumDemand q v = leb v q.b
figure_passes MaximumSupply q v = leb q.l v

-- "9 the schedule taken does not pass"
unfoldable pub test_taken : Family → Rates → Scheduled → Result Scheduled Failing
test_taken f q best = cond (figure_passes f q best.supply) (Ok best) (Err (refused 9))

-- "7 inconsistent, and this refusal carries the condition that failed first", then 9. (3, 4, 24 and 25 were told before.)
unfoldable pub test_consistent : Result (Unit {0}) Failing → Spec → Rates → Result Scheduled Failing
test_consistent (Ok consistent) s q = test_taken (family_of q) q (taken (family_of q) s q)
test_consistent (Err failing) s q = Err failing

-- 3, 4, 24, 25 and "5 a rate is absent", then 7 and 9
unfoldable pub test_of : Spec → Result Scheduled Failing
test_of s = if_rates (started s) (λ q. test_consistent (consistency_of s) s q) (λ n. Err (refused n))

-- v is as good a figure as w: "the least required supply", "the greatest available supply"
abbrev pub AsGood : Family → ℕ → ℕ → Type 0
AsGood MinimumDemand v w = v ≤ w
AsGood MaximumSupply v w = w ≤ v

-- The plan is the family's schedule with its number of reports. No k at all has a schedule with a better figure, and none smaller
-- has one as good.
pub record BestOfAll (f : Family) (s : Spec) (plan : Plan) (v : ℕ) : Type 0 where
  pub schedule : schedule_for f s plan.count ≡ Ok (schedule_of plan v)
  pub best : (k : ℕ) (other : Plan) (w : ℕ) → schedule_for f s k ≡ Ok (schedule_of other w) → AsGood f v w
  pub first : (k : ℕ) (other : Plan) → schedule_for f s k ≡ Ok (schedule_of other v) → plan.count ≤ k
