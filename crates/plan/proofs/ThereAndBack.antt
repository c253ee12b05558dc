-- What the demands' page says of the way from minutes back to reports. A number is told exactly of a proper plan, and the property that
-- names the last or the nearest report names one only.
use Prim.Native.Nat.{ℕ, ◌+◌, ◌-◌, ◌≤◌}
use native.Mathlib.Omega.{arith}
use mathlib.Core.Path.{◌≡◌, sym, ◌∙◌, ap}
use mathlib.Core.Logic.{◌↔◌}
use mathlib.Core.Bool.{true}
use Rattle.std.specs.Prelude.{Ok}
use Rattle.schedule.specs.Schedules.{sum, minute, share}
use Rattle.schedule.specs.Moments.{last_report, IsLast, nearest_report, IsNearest, counted, reports_from, records_from}
use Rattle.schedule.proofs.StretchSum.{stretch_is_sum}
use Rattle.schedule.proofs.Moments.{last_is, last_found, last_back, nearest_is, nearest_found, nearest_back, records_add, reports_add}
use Rattle.plan.specs.declared.Plan.{Plan}
use Rattle.plan.specs.Plans.{proper, run}
use Rattle.plan.specs.declared.Report.{Report}
use Rattle.plan.specs.Reports.{report_at, report_of}
use Rattle.plan.specs.Moments.{last_of, nearest_of, contents_of, between_of}
use Rattle.plan.proofs.Answers.{told, proper_told}
use Rattle.plan.proofs.Runs.{run_later}
use Rattle.plan.proofs.PlanMoments.{told_contents, contents_told}

module _ (p : Plan) where
  pub last_exact : (m i : ℕ) → (last_of p m ≡ Ok i) ↔ ((proper p ≡ true) × IsLast (run p) m i)
  last_exact m i = (
    λ e. let t = proper_told p (last_report (run p) m) e in (t.0, rw t.1 at (last_is (run p) (run_later p t.0) m)),
    λ (ok, is). sym (told p ok (sym (last_found (run p) (run_later p ok) m i is))),
  )

  pub nearest_exact : (m i : ℕ) → (nearest_of p m ≡ Ok i) ↔ ((proper p ≡ true) × IsNearest (run p) m i)
  nearest_exact m i = (
    λ e. let t = proper_told p (nearest_report (run p) m) e in (t.0, rw t.1 at (nearest_is (run p) (run_later p t.0) m)),
    λ (ok, is). sym (told p ok (sym (nearest_found (run p) (run_later p ok) m i is))),
  )

  pub there_and_back : (i m d : ℕ) → report_of p i ≡ Ok (report_at m d) → (last_of p m ≡ Ok i) × (nearest_of p m ≡ Ok i)
  unfolding report_of
  there_and_back i m d e =
      let t = proper_told p (report_at (minute (run p) i) ((run p).size i)) e in
      let ok = t.0 in
      let at_m : minute (run p) i ≡ m = ap (λ (r : Report). r.minute) t.1 in
      rw (← at_m) (
        sym (told p ok (sym (last_back (run p) (run_later p ok) i))),
        sym (told p ok (sym (nearest_back (run p) (run_later p ok) i))),
      )

  -- the counts of the run are plain sums over the reports at those minutes, however many are looked at
  abbrev pub Sums : ℕ → ℕ → ℕ → ℕ → Type 0
  Sums a b n d = (more : ℕ) → (n ≡ sum (share (counted (run p)) a (b - a)) (b + more)) × (d ≡ sum (share (run p) a (b - a)) (b + more))

  sums : proper p ≡ true → (a b : ℕ) → a ≤ b → Sums a b (reports_from (run p) a b) (records_from (run p) a b)
  unfolding reports_from records_from
  sums ok a b h more =
      let e : a + (b - a) ≡ b = omega arith in
      let later = run_later p ok in
      (rw e at (stretch_is_sum (counted (run p)) later a (b - a) more), rw e at (stretch_is_sum (run p) later a (b - a) more))

  pub between_exact : (a b n d : ℕ) → (between_of p a b ≡ Ok (contents_of n d)) ↔ ((proper p ≡ true) × ((a ≤ b) × Sums a b n d))
  between_exact a b n d = (
    λ e. let t = contents_told p a b n d e in (t.ok, (t.order, rw (t.reports, t.records) (sums t.ok a b t.order))),
    λ (ok, (h, s)). sym (told_contents p a b ok h ((s 0).0 ∙ sym (sums ok a b h 0).0) ((s 0).1 ∙ sym (sums ok a b h 0).1)),
  )

  pub counts_add_up : (a b c n d n' d' : ℕ) → between_of p a b ≡ Ok (contents_of n d) → between_of p b c ≡ Ok (contents_of n' d') → between_of p a c ≡ Ok (contents_of (n + n') (d + d'))
  counts_add_up a b c n d n' d' e f =
      let x = contents_told p a b n d e in
      let y = contents_told p b c n' d' f in
      let later = run_later p x.ok in
      sym
      (told_contents p a c x.ok (omega (arith, x.order, y.order))
      (rw (x.reports, y.reports) (reports_add (run p) later a b c x.order y.order))
      (rw (x.records, y.records) (records_add (run p) later a b c x.order y.order)))
