-- What is told of a proper plan, and what each kind's sizes add up to, by what the code has found.
use Prim.Native.Nat.{ℕ, ◌+◌, ◌-◌, ◌/◌, ◌%◌, ◌≤◌, ◌<◌}
use native.Mathlib.Nat.{add-zero}
use mathlib.Core.Path.{◌≡◌, refl, sym, ◌∙◌}
use mathlib.Core.Bool.{Bool, true, false, cond}
use borrow.Author.Tests.{le-leb, lt-leb}
use Rattle.std.specs.Prelude.{Result, Ok, Err, IsErrAnd}
use Rattle.std.proofs.lemmas.Result.{err_from_is_err_and}
use Rattle.spec.specs.declared.refusal.Refusal.{Refusal}
use Rattle.spec.specs.declared.refusal.Refusal.TheVariants.{NotProper}
use Rattle.spec.specs.Refusals.{numbered}
use Rattle.schedule.specs.Schedules.{sum}
use Rattle.plan.specs.declared.Kind.TheVariants.{WellFormed, Even}
use Rattle.plan.specs.declared.Plan.{Plan}
use Rattle.plan.specs.Plans.{proper, run, kind_run, well_size, well_gap, even_first, even_size}
use Rattle.plan.specs.Reports.{if_proper}
use Rattle.plan.proofs.Proper.{proper_bounds}
use Rattle.plan.proofs.EvenSizes.{even_sum}
use Rattle.plan.proofs.Runs.{run_gap, run_gap_most, run_size_most}

module _ {A : Type 0} (p : Plan) where
  pub told : {x y : A} → proper p ≡ true → x ≡ y → Ok x ≡ if_proper p y
  unfolding if_proper
  told ok e = rw (ok, e)

  -- `?` hands on the refusal
  pub not_proper : (x : Result A Refusal) (y : A) {r : Refusal} → (r ≡ NotProper) × (proper p ≡ false) → IsErrAnd x (λ e. e ≡ r) → numbered x ≡ if_proper p y
  unfolding if_proper
  not_proper x y refused is = let e = err_from_is_err_and x is in rw (e.1, e.2, refused.0, refused.1)

  -- and back from what is told
  pub proper_told : (x : A) {y : A} → if_proper p x ≡ Ok y → (proper p ≡ true) × (x ≡ y)
  unfolding if_proper
  proper_told x {y} = by (proper p) refl
    where
      by : (b : Bool) → proper p ≡ b → cond {A = Result A ℕ} b (Ok x) (Err 11) ≡ Ok y → (proper p ≡ true) × (x ≡ y)
      by true ok e = (ok, cc)
      by false ok e = cc

  pub proper_refused : (x : A) {n : ℕ} → if_proper p x ≡ Err n → proper p ≡ false
  unfolding if_proper
  proper_refused x {n} = by (proper p) refl
    where
      by : (b : Bool) → proper p ≡ b → cond {A = Result A ℕ} b (Ok x) (Err 11) ≡ Err n → proper p ≡ false
      by true ok e = cc
      by false ok e = ok

module _ (p : Plan) {x : ℕ} where
  -- no size is above 1,000 records
  module _ (i : ℕ) (ok : proper p ≡ true) where
    sized : x ≡ (run p).size i → (x ≡ (run p).size i) × (x ≤ 1000)
    sized e = (e, rw e (run_size_most p ok i))

    pub well_sized : p.kind ≡ WellFormed → x ≡ well_size p.count p.total i → (x ≡ (run p).size i) × (x ≤ 1000)
    unfolding run kind_run
    well_sized k e = sized (rw (k, e))

    pub even_sized : p.kind ≡ Even → x ≡ even_size p.count p.total i → (x ≡ (run p).size i) × (x ≤ 1000)
    unfolding run kind_run
    even_sized k e = sized (rw (k, e))

  pub well_held : (n : ℕ) → p.kind ≡ WellFormed → x ≡ sum (well_size p.count p.total) n → x ≡ sum (run p).size n
  unfolding run kind_run
  well_held n k e = rw (k, e)

  pub even_held : (n : ℕ) → proper p ≡ true → p.kind ≡ Even → x ≡ even_first p.count p.total n → x ≡ sum (run p).size n
  unfolding run kind_run
  even_held n ok k e = rw (k, e, even_sum p.count p.total (proper_bounds p ok).some n)

-- of both kinds the gaps are those of the well-formed one, and none is above 20,160 minutes
module _ (p : Plan) (ok : proper p ≡ true) (i : ℕ) where
  gapped : (x : ℕ) → x ≡ well_gap p.count p.period i → (x ≡ (run p).gap i) × (x ≤ 20160)
  gapped x e = let same : x ≡ (run p).gap i = e ∙ sym (run_gap p ok i) in (same, rw same (run_gap_most p ok i))

  pub longer_gap : p.count - p.period % p.count ≤ i % p.count → (p.period / p.count + 1 ≡ (run p).gap i) × (p.period / p.count + 1 ≤ 20160)
  unfolding well_gap
  longer_gap h = gapped _ (rw (le-leb _ _ h))

  pub shorter_gap : i % p.count < p.count - p.period % p.count → (p.period / p.count ≡ (run p).gap i) × (p.period / p.count ≤ 20160)
  unfolding well_gap
  shorter_gap h = gapped _ (rw (lt-leb _ _ h, add-zero))
