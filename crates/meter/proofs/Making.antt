-- What is made of a specification that was read: a fresh meter, or the refusal handed on. A lent meter is written only where there is no refusal: so
-- it is left a fresh one where the specification was accepted, and else what it was.
use Prim.Native.Nat.{ℕ}
use mathlib.Core.Path.{◌≡◌, refl}
use Rattle.std.specs.Prelude.{Option, None, Some, unwrap_or, Result, Ok, Err, MatchResult, IsOkAnd}
use Rattle.spec.specs.declared.refusal.Refusal.{Refusal}
use Rattle.spec.specs.declared.Rate.{Rate}
use Rattle.spec.specs.declared.Spec.{Spec}
use Rattle.std.specs.Result.{result_unwrap_or}
use Rattle.spec.specs.Refusals.{number_of, numbered, answer_number}
use Rattle.spec.specs.Limits.{rate_of}
use Rattle.spec.specs.File.{if_read}
use Rattle.meter.specs.declared.Meter.{Meter}
use Rattle.meter.specs.Ring.{window_of, budget_of, fresh, made}

-- the budget and the window of a rate that may be absent
pub supply_of : (rate : Option Rate) → unwrap_or rate (rate_of 20_000 0) ≡ rate_of (budget_of rate) (window_of rate)
supply_of None = refl
supply_of (Some rate) = refl

module _ (former : Meter) where
  pub made_stored : (read : Result Spec ℕ) (m : Meter) → Ok m ≡ made read → (0 ≡ if_read read (λ spec. 0) (λ n. n)) × (m ≡ if_read read fresh (λ n. former))
  unfolding made
  made_stored (Ok spec) m e = (refl, cc)
  made_stored (Err n) m e = absurd (cc)

  pub refused_kept : (read : Result Spec ℕ) (n : ℕ) → Err n ≡ made read → (n ≡ if_read read (λ spec. 0) (λ n. n)) × (former ≡ if_read read fresh (λ n. former))
  unfolding made
  refused_kept (Ok spec) n e = absurd (cc)
  refused_kept (Err n') n e = (cc, refl)

  -- so both are told by one answer
  pub made_told : (read : Result Spec ℕ) (r : Result Meter Refusal) → numbered r ≡ made read
      → (answer_number r ≡ if_read read (λ spec. 0) (λ n. n)) × (result_unwrap_or r former ≡ if_read read fresh (λ n. former))
  made_told read (Ok m) e = made_stored read m e
  made_told read (Err r) e = refused_kept read (number_of r) e

-- what the code makes of a specification that was read: a meter, or the refusal handed on
pub made_of : (read : Result Spec ℕ) (r : Result Spec Refusal) (made_one : Result Meter Refusal) → numbered r ≡ read
    → MatchResult r (λ spec. IsOkAnd made_one (λ m. m ≡ fresh spec)) (λ e. made_one ≡ Err e) → numbered made_one ≡ made read
unfolding made
made_of read (Ok spec) (Ok m) e cases = rw (← e, cases)
made_of read (Ok spec) (Err r) e cases = absurd cases
made_of read (Err r) made_one e cases = rw (← e, cases)
