-- Why the search ends at what it looks for. Of two gaps with as many reports in P minutes the longer has no more in R, so as many pairs will do there
-- too. The gaps between s and `next_gap` have as many in P minutes as s: so where no number of pairs will do at s, none will at these.
use Prim.Native.Nat.{ℕ, ◌*◌, ◌≤◌, ◌<◌}
use native.Mathlib.Omega.{arith}
use native.Mathlib.Nat.{le_trans, mul-le-mul_right}
use mathlib.Core.Path.{◌≡◌, refl, sym, ◌∙◌, ap}
use mathlib.Core.Bool.{Bool, true, false, cond, and-eq-true_iff}
use borrow.Author.Tests.{leb-true, le-leb, ne_eqb}
use Rattle.std.specs.Prelude.{Option, None, Some, MatchOption, IfSome}
use Rattle.std.specs.declared.num.NonZeroU16.{NonZeroU16}
use Rattle.std.specs.Int.NonZero.{non_zero_u16_get}
use Rattle.numbers.specs.Numbers.{first}
use Rattle.numbers.proofs.Ceilings.{ceil_falls}
use Rattle.numbers.proofs.Firsts.{first_right, first_passes, first_from}
use Rattle.spec.specs.declared.Rate.{Rate}
use Rattle.spec.specs.declared.Spec.{Spec}
use Rattle.plan.specs.declared.Kind.TheVariants.{Even}
use Rattle.plan.specs.declared.Plan.{Plan}
use Rattle.plan.specs.Plans.{plan_of}
use Rattle.even.specs.Even.{count_at}
use Rattle.even.specs.Jump.{next_gap}
use Rattle.even.specs.Search.{largest_in}
use Rattle.even.proofs.Jumps.{next_gap_less, same_count}
use Rattle.even.proofs.Search.{new_number, left_from, search_starts, search_hits, search_skips, search_done, search_ends}
use Rattle.boxplan.specs.BoxPlan.{most_at, fewest_records, supply_holds, pairs_fit, fewest_pairs, can_load, box_plan_at}
use Rattle.boxplan.specs.Search.{pairs_number, plan_if, plan_found}

-- q pairs will do at the gap s
abbrev pub FitAt : Spec → (s q : ℕ) → Type 0
FitAt spec s q = pairs_fit spec (count_at spec.demand s) (most_at spec.supply s) q ≡ true

module _ (spec : Spec) (s : ℕ) where
  -- where some number of pairs will do, the fewest will
  pub loads_fit : can_load spec s ≡ true → FitAt spec s (fewest_pairs spec s) × (1 ≤ fewest_pairs spec s) × (fewest_pairs spec s ≤ 512)
  unfolding can_load fewest_pairs
  loads_fit e =
      let few : fewest_pairs spec s ≤ 512 = leb-true _ _ e in
      let fit = pairs_fit spec (count_at spec.demand s) (most_at spec.supply s) in
      let passes : fit (first fit 512 1) ≡ true = first_passes fit 512 1 (omega (arith, few)) in
      (passes, first_from fit 512 1, few)

  -- and where q of 1 to 512 will do, no fewer than the fewest do
  pub fit_loads : (q : ℕ) → 1 ≤ q → q ≤ 512 → FitAt spec s q → (can_load spec s ≡ true) × (fewest_pairs spec s ≤ q)
  unfolding can_load fewest_pairs
  fit_loads q some few e =
      let fit = pairs_fit spec (count_at spec.demand s) (most_at spec.supply s) in
      let least : first fit 512 1 ≤ q = (first_right fit 512 1 q some (omega arith) e).least q some e in
      (le-leb _ _ (le_trans least few), least)

-- with fewer reports in R minutes as many pairs will do
holds_fewer : (supply : Option Rate) (n k q p : ℕ) → n ≤ k → supply_holds supply k q p ≡ true → supply_holds supply n q p ≡ true
unfolding supply_holds
holds_fewer None n k q p h e = refl
holds_fewer (Some x) n k q p h e = le-leb _ _ (le_trans (mul-le-mul_right p h) (leb-true _ _ e))

fit_fewer : (spec : Spec) (m n k q : ℕ) → n ≤ k → pairs_fit spec m k q ≡ true → pairs_fit spec m n q ≡ true
unfolding pairs_fit
fit_fewer spec m n k q h e =
    let p = fewest_records spec.demand spec.dmin m q in
    let r = (and-eq-true_iff _ (supply_holds spec.supply k q p)).0 e in
    (and-eq-true_iff _ (supply_holds spec.supply n q p)).1 (r.0, holds_fewer spec.supply n k q p h r.1)

most_falls : (supply : Option Rate) (t s : ℕ) → 0 < t → t ≤ s → most_at supply s ≤ most_at supply t
unfolding most_at
most_falls None t s pos h = omega arith
most_falls (Some x) t s pos h = ceil_falls x.minutes t s pos h

module _ (spec : Spec) (s t : ℕ) (pos : 0 < t) (longer : t ≤ s) (same : count_at spec.demand t ≡ count_at spec.demand s) where
  loads_longer : can_load spec t ≡ true → can_load spec s ≡ true
  loads_longer e =
      let r = loads_fit spec t e in
      let fit = fit_fewer spec (count_at spec.demand t) (most_at spec.supply s) (most_at spec.supply t) (fewest_pairs spec t) (most_falls spec.supply t s pos longer) r.0 in
      (fit_loads spec s (fewest_pairs spec t) r.1 r.2 (rw same at fit)).0

load_skips : (spec : Spec) (s t : ℕ) → 0 < s → next_gap spec.demand s < t → t ≤ s → can_load spec s ≡ false → can_load spec t ≡ false
load_skips spec s t pos a b e = by_cases (can_load spec t) refl
  where
    by_cases : (x : Bool) → can_load spec t ≡ x → x ≡ false
    by_cases true q = let y = loads_longer spec s t (omega arith) b (same_count spec.demand s t pos a b) q in cc
    by_cases false q = refl

-- What the plan at a gap tells of it: none where no list of sizes will do (Needed.antt), where no minutes have a report for sure, or where no number of
-- pairs will do; and else the plan.
module _ (spec : Spec) (s : ℕ) where
  if_not : can_load spec s ≡ false → None ≡ plan_if spec s
  unfolding plan_if
  if_not e = rw e

  pub not_loaded : ¬ (can_load spec s ≡ true) → None ≡ plan_if spec s
  not_loaded h = by_cases (can_load spec s) refl
    where
      by_cases : (b : Bool) → can_load spec s ≡ b → None ≡ plan_if spec s
      by_cases true e = absurd (h e)
      by_cases false e = if_not e

  fit_some : (m n q : ℕ) → pairs_fit spec m n q ≡ true → 1 ≤ m
  unfolding pairs_fit
  fit_some m n q e = leb-true 1 m ((and-eq-true_iff _ _).0 ((and-eq-true_iff _ _).0 e).0).0

  no_reports : count_at spec.demand s ≡ 0 → None ≡ plan_if spec s
  no_reports z = not_loaded (λ e. omega (arith, fit_some _ _ _ (loads_fit spec s e).0))

  -- and back from it
  told_some : (p : Plan) → plan_if spec s ≡ Some p → (can_load spec s ≡ true) × (box_plan_at spec s ≡ p)
  unfolding plan_if
  told_some p e = by_cases (can_load spec s) refl e
    where
      by_cases : (b : Bool) → can_load spec s ≡ b → cond b (Some (box_plan_at spec s)) None ≡ Some p → (can_load spec s ≡ true) × (box_plan_at spec s ≡ p)
      by_cases true q e = (q, cc)
      by_cases false q e = cc

  told_none : plan_if spec s ≡ None → can_load spec s ≡ false
  unfolding plan_if
  told_none e = by_cases (can_load spec s) refl e
    where
      by_cases : (b : Bool) → can_load spec s ≡ b → cond b (Some (box_plan_at spec s)) None ≡ None → can_load spec s ≡ false
      by_cases true q e = cc
      by_cases false q e = q

  found_some : 0 < s → plan_found spec s ≡ Some (box_plan_at spec s)
  unfolding plan_found
  found_some pos = rw (ne_eqb s 0 (omega arith))

  -- by what the calls answered: m and n, and how many pairs
  module _ (x : Option NonZeroU16) (counted : MatchOption x (count_at spec.demand s ≡ 0) (λ m. non_zero_u16_get m ≡ count_at spec.demand s)) where
    pub counted_none : x ≡ None → None ≡ plan_if spec s
    counted_none e = no_reports (rw e at counted)

    module _ (m : NonZeroU16) (is : x ≡ Some m) (n : ℕ) (most : n ≡ most_at spec.supply s) where
      counted_some : non_zero_u16_get m ≡ count_at spec.demand s
      counted_some = rw is at counted

      fewest_is : (q : ℕ) → q ≡ first (pairs_fit spec (non_zero_u16_get m) n) 512 1 → q ≡ fewest_pairs spec s
      unfolding fewest_pairs
      fewest_is q e = rw (counted_some, most) at e

      pub no_pairs : (found : Option ℕ) → pairs_number found ≡ first (pairs_fit spec (non_zero_u16_get m) n) 512 1 → found ≡ None → None ≡ plan_if spec s
      no_pairs found e z = not_loaded (λ h. let w = rw z at (fewest_is (pairs_number found) e) in omega (arith, (loads_fit spec s h).2))

      pub some_pairs : (found : Option ℕ) → pairs_number found ≡ first (pairs_fit spec (non_zero_u16_get m) n) 512 1 → IfSome found (λ q. q ≤ 512)
          → (q t : ℕ) → found ≡ Some q → t ≡ fewest_records spec.demand spec.dmin (non_zero_u16_get m) q → Some (plan_of Even q (q * s) t) ≡ plan_if spec s
      unfolding plan_if can_load box_plan_at
      some_pairs found e few q t z total =
          let w : q ≡ fewest_pairs spec s = rw z at (fewest_is (pairs_number found) e) in
          let most : q ≤ 512 = rw z at few in
          rw (le-leb (fewest_pairs spec s) 512 (omega arith), ← w, total, counted_some)

pub found_none : (spec : Spec) → None ≡ plan_found spec 0
unfolding plan_found
found_none spec = refl

-- What the search goes by, in the range lo to hi.
module _ (spec : Spec) (lo hi s : ℕ) where
  pub search_finds : (p : Plan) → 0 < s → lo ≤ s → s ≤ hi → plan_if spec s ≡ Some p → left_from (can_load spec) lo hi s ≡ largest_in (can_load spec) lo hi
      → Some p ≡ plan_found spec (largest_in (can_load spec) lo hi)
  search_finds p pos low high e left =
      let k = told_some spec s p e in
      let found : plan_found spec s ≡ Some p = found_some spec s pos ∙ ap Some k.1 in
      sym (ap (plan_found spec) (sym left ∙ search_hits (can_load spec) lo hi s pos low high k.0) ∙ found)

  pub search_jumps : 0 < s → plan_if spec s ≡ None → left_from (can_load spec) lo hi s ≡ left_from (can_load spec) lo hi (next_gap spec.demand s)
  search_jumps pos e =
      search_skips (can_load spec) lo hi (next_gap spec.demand s) s
      (omega (arith, next_gap_less spec.demand s pos))
      (λ t p q. load_skips spec s t pos p q (told_none spec s e))

  pub search_below : s < lo → left_from (can_load spec) lo hi s ≡ largest_in (can_load spec) lo hi → None ≡ plan_found spec (largest_in (can_load spec) lo hi)
  search_below h left = found_none spec ∙ ap (plan_found spec) (sym (search_ends (can_load spec) lo hi s h) ∙ left)

pub search_over : (spec : Spec) (lo hi : ℕ) → left_from (can_load spec) lo hi 0 ≡ largest_in (can_load spec) lo hi → None ≡ plan_found spec (largest_in (can_load spec) lo hi)
search_over spec lo hi left = found_none spec ∙ ap (plan_found spec) (sym (search_done (can_load spec) lo hi) ∙ left)

pub ruleset searching = (new_number, next_gap_less, search_starts, search_finds, search_jumps, search_below, search_over)
