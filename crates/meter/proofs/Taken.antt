-- A meter that stands for a list, with a report more, stands for the list with that report in front. Fewer than 1,024 reports count,
-- so the place behind the last is none of theirs.
use Prim.Native.Nat.{ℕ, ◌+◌, ◌-◌, ◌%◌, ◌<◌}
use native.Mathlib.Omega.{arith}
use native.Mathlib.Numerals.{add-one}
use mathlib.Core.Path.{◌≡◌, refl, ◌∙◌, ap}
use mathlib.Core.Bool.{false}
use mathlib.Core.List.{List, ◌∷◌, ◌++◌}
use lib.ListN.{length-set}
use lib.Seq.{get_or-set_same, get_or-set_other}
use Rattle.spec.specs.declared.Spec.{Spec}
use Rattle.schedule.specs.Schedules.{sum}
use Rattle.schedule.proofs.Sums.{sum_more, sum_same}
use Rattle.meter.specs.declared.Meter.{Meter}
use Rattle.meter.specs.Plain.{Report, too_early}
use Rattle.meter.specs.Ring.{place_of, ring_report, held_report, aged, used, with_offer}
use Rattle.meter.proofs.Offers.{later_offered, offered_falls}
use Rattle.meter.proofs.Rows.{rows, rows_same}
use Rattle.meter.proofs.Held.{Keeps, counting, aged_now, used_now, parts_now, all_aged, past_now}

-- places of the ring: counted from the new first one, and apart from the new last one
place_on : (first k i : ℕ) → ((first + k) % 1024 + i) % 1024 ≡ (first + (k + i)) % 1024
place_on first k i = omega arith

place_apart : (first i n : ℕ) → i < n → n < i + 1024 → (first + i) % 1024 ≡ (first + n) % 1024 → ⊥
place_apart first i n a b e = omega arith

place_in : (n : ℕ) → n % 1024 < 1024
place_in n = omega arith

module _ (spec : Spec) (m : Meter) (l : List Report) (kept : Keeps spec m l) (x : Report) (in_time : too_early spec l x.minute ≡ false) (place : m.count - aged m x.minute < 1024) where
  abbrev t : ℕ
  t = x.minute

  abbrev n : ℕ
  n = m.count - aged m t

  abbrev m' : Meter
  m' = with_offer m t x.size

  -- the reports that counted keep their places
  held_old : (i : ℕ) → i < n → held_report m' i ≡ counting spec m l kept t i
  unfolding with_offer held_report ring_report
  held_old i h =
      let a = place_apart m.first (aged m t + i) m.count (omega arith) (omega arith) in
      rw (place_on m.first (aged m t) i, get_or-set_other m.minutes _ _ t 0 a, get_or-set_other m.sizes _ _ x.size 0 a)

  -- the new one comes behind them
  held_new : held_report m' n ≡ x
  unfolding with_offer held_report ring_report
  held_new =
      let k = (aged_now spec m l kept t).most in
      let e : aged m t + n ≡ m.count = omega arith in
      rw (
        place_on m.first (aged m t) n,
        e,
        get_or-set_same m.minutes (place_of m.first m.count) t 0 (rw kept.places.0 (place_in (m.first + m.count))),
        get_or-set_same m.sizes (place_of m.first m.count) x.size 0 (rw kept.places.1 (place_in (m.first + m.count))),
      )

  records_new : used m t + x.size ≡ sum (λ i. (held_report m' i).size) (n + 1)
  records_new =
      let old = sum_same (λ i. (held_report m' i).size) (λ i. (counting spec m l kept t i).size) n (λ i h. ap (λ (y : Report). y.size) (held_old i h)) in
      rw (sum_more (λ i. (held_report m' i).size) n, held_new, old, used_now spec m l kept t)

  joined_new : x ∷ l ≡ rows (held_report m') (n + 1) ++ (rows (held_report m) (aged m t) ++ kept.gone)
  joined_new =
      rw (add-one n, held_new, rows_same (held_report m') (counting spec m l kept t) n held_old)
      (ap (λ (y : List Report). x ∷ y) (parts_now spec m l kept t))

  pub taken : Keeps spec m' (x ∷ l)
  unfolding with_offer
  taken =
      let z = later_offered spec l t in_time in
      record {
        dmin = kept.dmin;
        dmax = kept.dmax;
        smin = kept.smin;
        budget = kept.budget;
        window = kept.window;
        places = (length-set m.minutes _ _ ∙ kept.places.0, length-set m.sizes _ _ ∙ kept.places.1);
        few = omega arith;
        only_last = λ e. omega (arith, all_aged spec m l kept t e);
        records = records_new;
        gone = rows (held_report m) (aged m t) ++ kept.gone;
        joined = joined_new;
        past = rw z at (past_now spec m l kept t);
        falls = offered_falls spec l t in_time kept.falls;
        latest = (omega arith, refl);
      }
