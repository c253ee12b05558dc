-- From minutes back to reports, of a proper plan: what the code has found is what the definitions name.
use Prim.Native.Nat.{ℕ, ◌+◌, ◌-◌, ◌≤◌, ◌<◌}
use native.Mathlib.Omega.{arith}
use native.Mathlib.Nat.{sub-zero}
use mathlib.Core.Path.{◌≡◌, refl, ◌∙◌, ap}
use mathlib.Core.Bool.{Bool, true, false, cond}
use lib.Dec.{leb}
use borrow.Author.Tests.{le-leb, lt-leb, leb-true}
use Rattle.std.specs.Prelude.{Result, Ok, Err, IsErrAnd}
use Rattle.std.proofs.lemmas.Result.{err_from_is_err_and}
use Rattle.spec.specs.declared.refusal.Refusal.{Refusal}
use Rattle.spec.specs.declared.refusal.Refusal.TheVariants.{NotProper}
use Rattle.spec.specs.Refusals.{numbered}
use Rattle.schedule.specs.Schedules.{sum, minute, stretch}
use Rattle.schedule.specs.Moments.{last_report, nearest_report, reports_from, records_from}
use Rattle.schedule.proofs.Moments.{last_before, next_after, last_small, nearest_last, nearest_next, records_add, records_first, reports_add, reports_first, reports_until}
use Rattle.schedule.proofs.Before.{minute_least}
use Rattle.plan.specs.declared.Plan.{Plan}
use Rattle.plan.specs.declared.moments.Contents.{Contents}
use Rattle.plan.specs.Plans.{proper, run}
use Rattle.plan.specs.Moments.{contents_of, between_of}
use Rattle.plan.proofs.Runs.{run_later}

-- the cases of what lies between
module _ (p : Plan) (a b : ℕ) where
  pub not_told : (x : Result Contents Refusal) {r : Refusal} → (r ≡ NotProper) × (proper p ≡ false) → IsErrAnd x (λ e. e ≡ r) → numbered x ≡ between_of p a b
  unfolding between_of
  not_told x refused is = let e = err_from_is_err_and x is in rw (e.1, e.2, refused.0, refused.1)

  pub backwards : proper p ≡ true → b < a → Err 23 ≡ between_of p a b
  unfolding between_of
  backwards ok h = rw (ok, lt-leb _ _ h)

  pub told_contents : {n d : ℕ} → proper p ≡ true → a ≤ b → n ≡ reports_from (run p) a b → d ≡ records_from (run p) a b → Ok (contents_of n d) ≡ between_of p a b
  unfolding between_of
  told_contents ok h en ed = rw (ok, le-leb _ _ h, en, ed)

  -- and back from what is told: the plan is proper, the order right, and the counts are those of the run
  pub record Told (n d : ℕ) : Type 0 where
    pub ok : proper p ≡ true
    pub order : a ≤ b
    pub reports : n ≡ reports_from (run p) a b
    pub records : d ≡ records_from (run p) a b

  pub contents_told : (n d : ℕ) → between_of p a b ≡ Ok (contents_of n d) → Told n d
  unfolding between_of
  contents_told n d = by (proper p) refl (leb a b) refl
    where
      told_of : (x y : Bool) → Result Contents ℕ
      told_of x y = cond x (cond y (Ok (contents_of (reports_from (run p) a b) (records_from (run p) a b))) (Err 23)) (Err 11)

      by : (x : Bool) → proper p ≡ x → (y : Bool) → leb a b ≡ y → told_of x y ≡ Ok (contents_of n d) → Told n d
      by true ok true h e =
          let same : contents_of n d ≡ contents_of (reports_from (run p) a b) (records_from (run p) a b) = cc in
          record {
            ok = ok;
            order = leb-true a b h;
            reports = ap (λ (held : Contents). held.reports) same;
            records = ap (λ (held : Contents). held.records) same;
          }
      by true ok false h e = cc
      by false ok y h e = cc

module _ (p : Plan) (ok : proper p ≡ true) where
  later : (i : ℕ) → 1 ≤ (run p).gap i
  later = run_later p ok

  -- of the reports before the next minute, the last
  pub last_of_those : (m : ℕ) {n : ℕ} → n ≡ reports_from (run p) 0 (m + 1) → (n ≡ last_report (run p) m + 1) × (n - 1 ≤ m)
  last_of_those m e = let f = e ∙ reports_until (run p) later m in (f, omega (arith, f, last_small (run p) later m))

  -- the last report or the next, by their minutes
  module _ (m : ℕ) {i here next : ℕ} (last : i ≡ last_report (run p) m) (before : here ≡ minute (run p) i) (after : next ≡ minute (run p) (i + 1)) where
    here_is : here ≡ minute (run p) (last_report (run p) m)
    here_is = rw (before, last)

    next_is : next ≡ minute (run p) (last_report (run p) m + 1)
    next_is = rw (after, last)

    pub enclosed : (here ≤ m) × (m < next)
    enclosed = (omega (arith, here_is, last_before (run p) later m), omega (arith, next_is, next_after (run p) later m))

    pub choose_last : m - here ≤ next - m → (i ≡ nearest_report (run p) m) × (i ≤ m)
    choose_last h =
        (omega (arith, nearest_last (run p) later m (omega (arith, here_is, next_is))), omega (arith, last_small (run p) later m))

    pub choose_next : next - m < m - here → (i + 1 ≡ nearest_report (run p) m) × (i + 1 ≤ m)
    choose_next h =
        (omega (arith, nearest_next (run p) later m (omega (arith, here_is, next_is))), omega (arith, here_is, minute_least (run p) later (last_report (run p) m)))

  -- the reports before minute x are the first, and hold what so many first reports hold
  pub first_contents : (x : ℕ) {n d : ℕ} → n ≡ reports_from (run p) 0 x → d ≡ sum (run p).size n
      → contents_of n d ≡ contents_of (reports_from (run p) 0 x) (records_from (run p) 0 x)
  first_contents x en ed = rw (ed, en, reports_first (run p) later x, records_first (run p) later x)

  -- what lies between is the difference of what lies before
  module _ (a b : ℕ) (order : a ≤ b) where
    reports_more : reports_from (run p) 0 a + reports_from (run p) a b ≡ reports_from (run p) 0 b
    reports_more = reports_add (run p) later 0 a b (omega arith) order

    records_more : records_from (run p) 0 a + records_from (run p) a b ≡ records_from (run p) 0 b
    records_more = records_add (run p) later 0 a b (omega arith) order

    pub reports_rise : reports_from (run p) 0 a ≤ reports_from (run p) 0 b
    reports_rise = omega (arith, reports_more)

    pub records_rise : records_from (run p) 0 a ≤ records_from (run p) 0 b
    records_rise = omega (arith, records_more)

    pub contents_between : contents_of (reports_from (run p) 0 b - reports_from (run p) 0 a) (records_from (run p) 0 b - records_from (run p) 0 a)
        ≡ contents_of (reports_from (run p) a b) (records_from (run p) a b)
    contents_between =
        let n : reports_from (run p) 0 b - reports_from (run p) 0 a ≡ reports_from (run p) a b = omega (arith, reports_more) in
        let d : records_from (run p) 0 b - records_from (run p) 0 a ≡ records_from (run p) a b = omega (arith, records_more) in
        rw (n, d)

-- of the first minutes, the stretch from minute 0 on
pub first_stretch : (p : Plan) (x : ℕ) → records_from (run p) 0 x ≡ stretch (run p) 0 x
unfolding records_from
first_stretch p x = rw sub-zero
