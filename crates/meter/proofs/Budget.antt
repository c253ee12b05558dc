-- No R minutes hold more than B accepted records. Where the report that was accepted last is not in them, they hold what they held
-- before. Where it is, every other report in them is in the R minutes that end with it, which the offer was judged by.
use Prim.Native.Nat.{ℕ, ◌+◌, ◌-◌, ◌≤◌, ◌<◌}
use native.Mathlib.Omega.{arith}
use mathlib.Core.Path.{◌≡◌, refl, subst}
use mathlib.Core.Bool.{Bool, true, false, cond, and-eq-true_iff}
use mathlib.Core.List.{List, [], ◌∷◌}
use borrow.Author.Tests.{ltb-true, ltb-false, leb-true, lt-ltb, le-leb}
use Rattle.std.specs.Prelude.{Option, None, Some}
use Rattle.spec.specs.declared.Rate.{Rate}
use Rattle.spec.specs.declared.Spec.{Spec}
use Rattle.spec.specs.Limits.{rate_of, IsAccepted}
use Rattle.schedule.specs.Schedules.{in_stretch}
use Rattle.meter.specs.Plain.{Report, counted_at, records_at, ending_with, over_budget, after, offer_answer, plain_answers, accepted_onto, later}
use Rattle.meter.specs.Ring.{fresh, meter_answers}
use Rattle.meter.proofs.Offers.{FallsFrom, Falls, falls_later, later_falls, offered_falls, after_keeps}
use Rattle.meter.proofs.SameAnswers.{same_answers}

part : (b c : Bool) (d : ℕ) → (b ≡ true → c ≡ true) → cond b d 0 ≤ cond c d 0
part true c d h = rw (h refl) (omega arith)
part false c d h = omega arith

-- where the one test picks only minutes that the other picks too, up to t
records_part : (p q : ℕ → Bool) (t : ℕ) (l : List Report) → ((u : ℕ) → u ≤ t → p u ≡ true → q u ≡ true) → FallsFrom t l → records_at p l ≤ records_at q l
unfolding counted_at
records_part p q t [] h f = omega arith
records_part p q t (x ∷ l) h f =
    omega (arith, part (p x.minute) (q x.minute) x.size (h x.minute f.0), records_part p q t l h (falls_later x.minute t l f.0 f.1))

-- a stretch with minute t in it, up to t, is in the minutes that end with t
stretch_ends : (a r t u : ℕ) → t < a + r → u ≤ t → in_stretch a r u ≡ true → ending_with r t u ≡ true
stretch_ends a r t u k h e =
    let p = simp and-eq-true_iff at e in
    rw (lt-ltb t (u + r) (omega (arith, leb-true a u p.0)), le-leb u t h)

-- and the R minutes that end with t are in a stretch of R minutes: before minute R they are fewer
ends_in_stretch : (r t u : ℕ) → ending_with r t u ≡ true → in_stretch (t + 1 - r) r u ≡ true
ends_in_stretch r t u e =
    let p = simp and-eq-true_iff at e in
    let h = ltb-true t (u + r) p.0 in
    let k = leb-true u t p.1 in
    rw (le-leb (t + 1 - r) u (omega arith), lt-ltb u (t + 1 - r + r) (omega arith))

module _ (b r : ℕ) where
  one_more : (x : Report) (l : List Report) → FallsFrom x.minute l → records_at (ending_with r x.minute) l + x.size ≤ b
      → ((a : ℕ) → records_at (in_stretch a r) l ≤ b) → (a : ℕ) → records_at (in_stretch a r) (x ∷ l) ≤ b
  unfolding counted_at
  one_more x l f h kept a = pick (in_stretch a r x.minute) refl
    where
      pick : (c : Bool) → in_stretch a r x.minute ≡ c → cond c x.size 0 + records_at (in_stretch a r) l ≤ b
      pick true e =
          let k = ltb-true x.minute (a + r) (simp and-eq-true_iff at e).1 in
          omega (arith, records_part (in_stretch a r) (ending_with r x.minute) x.minute l (λ u. stretch_ends a r x.minute u k) f)
      pick false e = omega (arith, kept a)

abbrev WithinBudget : Option Rate → List Report → Type 0
WithinBudget None l = Unit {0}
WithinBudget (Some rate) l = (a : ℕ) → records_at (in_stretch a rate.minutes) l ≤ rate.records

within_none : (rate : Option Rate) → WithinBudget rate []
unfolding counted_at
within_none None = tt
within_none (Some rate) = λ a. omega arith

within_more : (rate : Option Rate) (x : Report) (l : List Report) → FallsFrom x.minute l → over_budget rate l x ≡ false → WithinBudget rate l
    → WithinBudget rate (x ∷ l)
unfolding over_budget
within_more None x l f e k = tt
within_more (Some rate) x l f e k = one_more rate.records rate.minutes x l f (ltb-false _ _ e) k

abbrev Kept : Spec → List Report → Type 0
Kept spec l = Falls l × WithinBudget spec.supply l

kept_all : (spec : Spec) (offers l : List Report) → Kept spec l → Kept spec (accepted_onto l offers (plain_answers spec l offers))
unfolding accepted_onto plain_answers offer_answer after
kept_all spec [] l k = k
kept_all spec (x ∷ xs) l k =
    kept_all spec xs (after spec l x)
    (after_keeps (Kept spec) spec l x k (λ p.
    let f = offered_falls spec l x.minute p.in_time k.0 in
    (f, within_more spec.supply x l f p.in_budget k.1)))

-- no R minutes, from whatever start, nor those that end with whatever minute
abbrev pub NeverOver : ℕ → ℕ → List Report → Type 0
NeverOver b r l = ((a : ℕ) → records_at (in_stretch a r) l ≤ b) × ((t : ℕ) → records_at (ending_with r t) l ≤ b)

never_over : (b r : ℕ) (l : List Report) → Falls l → ((a : ℕ) → records_at (in_stretch a r) l ≤ b) → NeverOver b r l
never_over b r l f k = (k, λ t. omega (arith, k (t + 1 - r), records_part (ending_with r t) (in_stretch (t + 1 - r) r) (later l 0) l (λ u h. ends_in_stretch r t u) (later_falls l 0 f)))

pub budget_kept : (spec : Spec) (b r : ℕ) (offers : List Report) → IsAccepted spec → spec.supply ≡ Some (rate_of b r)
    → NeverOver b r (accepted_onto [] offers (meter_answers (fresh spec) offers))
budget_kept spec b r offers ok e =
    rw (same_answers spec offers ok)
    (let k = kept_all spec offers [] (tt, within_none spec.supply) in
    never_over b r (accepted_onto [] offers (plain_answers spec [] offers)) k.0
    (subst (λ (rate : Option Rate). WithinBudget rate (accepted_onto [] offers (plain_answers spec [] offers))) e k.1))
