-- The reports of a proper plan before a minute: those of whole periods, and those of the last one.
use Prim.Native.Nat.{ℕ, ◌+◌, ◌*◌, ◌/◌, ◌%◌, ◌≤◌}
use native.Mathlib.Omega.{arith}
use native.Mathlib.Nat.{mod-lt, div-add-mod'}
use mathlib.Core.Path.{◌≡◌, ◌∙◌}
use mathlib.Core.Bool.{true}
use Rattle.schedule.specs.Schedules.{minute}
use Rattle.schedule.specs.Moments.{reports_from}
use Rattle.schedule.proofs.Before.{before_is, before_le}
use Rattle.schedule.proofs.Moments.{reports_first}
use Rattle.plan.specs.declared.Plan.{Plan}
use Rattle.plan.specs.Plans.{proper, run}
use Rattle.plan.proofs.Proper.{ProperBounds, proper_bounds}
use Rattle.plan.proofs.WellFormed.{gap_sum}
use Rattle.plan.proofs.Minutes.{within, within_before, period_iff}
use Rattle.plan.proofs.Runs.{run_gaps, run_later}

module _ (p : Plan) (ok : proper p ≡ true) where
  known : ProperBounds p
  known = proper_bounds p ok

  -- whole periods, and the minutes of the report in its own
  pub run_minute : (i : ℕ) → minute (run p) i ≡ i / p.count * p.period + within p.count p.period (i % p.count)
  unfolding minute within
  run_minute i = run_gaps p ok i ∙ gap_sum p.count known.some p.period i

  reports_in : (m : ℕ) → reports_from (run p) 0 m ≡ m / p.period * p.count + within_before p.count p.period (m % p.period)
  reports_in m =
      reports_first (run p) (run_later p ok) m
      ∙ before_is (run p) (run_later p ok) m _
      (λ i.
      let l = period_iff p.count p.period known.some known.long (m / p.period) (m % p.period) (mod-lt m (omega (arith, known))) (i / p.count) (i % p.count) (mod-lt i known.some) in
      let f = run_minute i in
      let x = div-add-mod' m p.period in
      let y = div-add-mod' i p.count in
      (λ h. let z = l.0 (omega arith) in omega arith, λ h. let z = l.1 (omega arith) in omega arith))

  pub reports_closed : {k π : ℕ} → k ≡ p.count → π ≡ p.period → (m : ℕ) → reports_from (run p) 0 m ≡ m / π * k + within_before k π (m % π)
  reports_closed ek eπ m = rw (ek, eπ) (reports_in m)

  -- no two are at one minute
  pub reports_few : (m : ℕ) → reports_from (run p) 0 m ≤ m
  reports_few m = rw (reports_first (run p) (run_later p ok) m) (before_le (run p) (run_later p ok) m)
