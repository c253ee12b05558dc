-- Laws that the functions' proofs cite: the walk over the oldest reports, one at a time; and the step, put together
-- from what its parts give.
use Prim.Native.Nat.{ℕ, suc, ◌+◌, ◌*◌, ◌-◌, ◌≤◌, ◌<◌}
use native.Mathlib.Omega.{arith}
use native.Mathlib.Nat.{zero-add}
use mathlib.Core.Path.{◌≡◌, refl, sym, ◌∙◌}
use mathlib.Core.Bool.{Bool, true, false, cond, not}
use lib.Dec.{leb, ltb, eqb}
use lib.ListN.{set, get_or}
use borrow.Author.Tests.{ne_eqb}
use Rattle.std.specs.Prelude.{Result, Ok, Err, is_ok}
use Rattle.spec.specs.declared.refusal.Refusal.{Refusal}
use Rattle.spec.specs.Refusals.{answer_number}
use Rattle.spec.specs.Limits.{between}
use Rattle.spec.proofs.Refusals.{number_of_some}
use Rattle.meter.specs.Plain.{Report, first_of}
use Rattle.schedule.specs.Schedules.{sum}
use Rattle.schedule.proofs.Sums.{sum_more}
use Rattle.meter.specs.declared.Meter.{Meter}
use Rattle.meter.specs.Ring.{place_of, ring_report, held_report, aged_from, later_of, aged, used, early_of, ring_number, with_offer, left_of, accepted_step, refused_step, stepped}

module _ (f : ℕ → Report) (w t : ℕ) where
  aged_none : (i : ℕ) → aged_from f w t 0 i ≡ 0
  unfolding aged_from
  aged_none i = refl

  aged_more : (n i : ℕ) → leb ((f i).minute + w) t ≡ true → aged_from f w t (suc n) i ≡ suc (aged_from f w t n (i + 1))
  unfolding aged_from
  aged_more n i e = rw (e, aged_from)

  aged_past : (n i : ℕ) → leb ((f i).minute + w) t ≡ false → aged_from f w t (suc n) i ≡ 0
  unfolding aged_from
  aged_past n i e = rw (e, aged_from)

-- k reports are passed, all of them out of the window: the walk over the others gives the rest of the count, and `records` is their sum
pub record Walked (m : Meter) (minute k records : ℕ) : Type 0 where
  pub rest : k + aged_from (held_report m) m.window (later_of m.count m.last minute) (m.count - k) k ≡ aged m minute
  pub passed : records ≡ sum (λ i. (held_report m i).size) k
  pub fits : records ≤ 65_535 * k

pub walk_starts : (m : Meter) (minute : ℕ) → Walked m minute 0 0
unfolding aged sum
walk_starts m minute = let z : m.count - 0 ≡ m.count = omega arith in record { rest = rw (z, zero-add); passed = refl; fits = omega arith }

module _ (m : Meter) (minute k records : ℕ) (walk : Walked m minute k records) where
  module _ (t at : ℕ) (now : t ≡ later_of m.count m.last minute) (place : at ≡ place_of m.first k) (more : k < m.count) where
    here : (b : Bool) → b ≡ leb (get_or m.minutes at 0 + m.window) t → leb ((held_report m k).minute + m.window) (later_of m.count m.last minute) ≡ b
    unfolding held_report ring_report
    here b e = sym (rw (place, now) at e)

    size_here : (held_report m k).size ≡ get_or m.sizes at 0
    unfolding held_report ring_report
    size_here = rw place refl

    pub walk_goes_on : get_or m.sizes at 0 ≤ 65_535 → true ≡ leb (get_or m.minutes at 0 + m.window) t → Walked m minute (k + 1) (records + get_or m.sizes at 0)
    walk_goes_on few e =
        let z : m.count - k ≡ suc (m.count - (k + 1)) = omega arith in
        record {
          rest = omega (arith, rw (z, aged_more (held_report m) m.window (later_of m.count m.last minute) (m.count - (k + 1)) k (here true e)) at walk.rest);
          passed = rw (sum_more _ _, size_here) (omega (arith, walk.passed));
          fits = omega (arith, walk.fits);
        }

    pub walk_stops : false ≡ leb (get_or m.minutes at 0 + m.window) t → k ≡ aged m minute
    walk_stops e =
        let z : m.count - k ≡ suc (m.count - (k + 1)) = omega arith in
        omega (arith, rw (z, aged_past (held_report m) m.window (later_of m.count m.last minute) (m.count - (k + 1)) k (here false e)) at walk.rest)

  pub walk_ends : m.count ≤ k → k ≤ m.count → m.count ≡ aged m minute
  walk_ends h h' =
      let z : m.count - k ≡ 0 = omega arith in
      omega (arith, rw (z, aged_none (held_report m) m.window (later_of m.count m.last minute) k) at walk.rest)

-- an answer's number is 0 exactly where nothing is refused
module _ {A : Type 0} where
  pub ok_number : (r : Result A Refusal) → is_ok r ≡ true → answer_number r ≡ 0
  ok_number (Ok a) e = refl
  ok_number (Err r) e = absurd (cc)

  pub err_number : (r : Result A Refusal) → is_ok r ≡ false → ¬ (answer_number r ≡ 0)
  err_number (Ok a) e z = absurd (cc)
  err_number (Err r) e z = omega (arith, number_of_some r)

-- The step, put together: of what the ring holds a reports have aged, with `out` records, and u are what is left of the records; the tests over these
-- give the number n.
module _ (m : Meter) (t d a out u n : ℕ) (walked : a ≡ aged m t) (gone : out ≡ sum (λ i. (held_report m i).size) a) (rest : u ≡ m.records - out)
    (judged : n ≡ first_of (early_of m.count m.last m.smin t) (not (between m.dmin m.dmax d)) (ltb m.budget (u + d)) (leb 1024 (m.count - a))) where
  used_is : u ≡ used m t
  unfolding used
  used_is = rest ∙ rw (gone, walked)

  number_is : n ≡ ring_number m t d
  unfolding ring_number
  number_is = judged ∙ rw (walked, used_is)

  pub step_refused : ¬ (n ≡ 0) → record { meter = m; answer = record { number = n; left = left_of m.window m.budget u } } ≡ stepped m t d
  unfolding stepped refused_step
  step_refused some = rw (← number_is, ne_eqb n 0 some, ← used_is)

  pub step_accepted : (first at : ℕ) → n ≡ 0 → first ≡ place_of m.first a → at ≡ place_of m.first m.count
      → record {
        meter = record {
          dmin = m.dmin;
          dmax = m.dmax;
          smin = m.smin;
          budget = m.budget;
          window = m.window;
          records = u + d;
          first = first;
          count = m.count - a + 1;
          last = t;
          minutes = set m.minutes at t;
          sizes = set m.sizes at d;
        };
        answer = record { number = n; left = left_of m.window m.budget (u + d) };
      } ≡ stepped m t d
  unfolding stepped accepted_step with_offer
  step_accepted first at none p q = rw (← number_is, none, ← used_is, ← walked, p, q)

-- a refusal leaves the meter as it was
refusal_keeps : (m : Meter) (t d : ℕ) → ¬ ((stepped m t d).answer.number ≡ 0) → m ≡ (stepped m t d).meter
unfolding stepped accepted_step refused_step
refusal_keeps m t d = pick (eqb (ring_number m t d) 0)
  where
    pick : (b : Bool) → ¬ ((cond b (accepted_step m t d) (refused_step m t d)).answer.number ≡ 0) → m ≡ (cond b (accepted_step m t d) (refused_step m t d)).meter
    pick true some = absurd (some refl)
    pick false some = refl

pub refused_keeps : (m : Meter) (t d n : ℕ) → n ≡ (stepped m t d).answer.number → ¬ (n ≡ 0) → m ≡ (stepped m t d).meter
refused_keeps m t d n e some = refusal_keeps m t d (λ z. some (e ∙ z))

pub refused_meter_kept : (m : Meter) (t d : ℕ) → 0 < (stepped m t d).answer.number → (stepped m t d).meter ≡ m
refused_meter_kept m t d h = sym (refusal_keeps m t d (λ z. omega arith))
