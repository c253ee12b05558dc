-- The supply figures of a proper plan. Required supply is what its first minutes hold. Available supply, the least over all
-- starts, is that of the stretch that ends with a period: with the front that it leaves out it is whole periods.
use Prim.Native.Nat.{ℕ, zero, suc, ◌+◌, ◌-◌, ◌*◌, ◌/◌, ◌%◌, ◌≤◌, ◌<◌}
use native.Mathlib.Omega.{arith}
use native.Mathlib.Nat.{mod-lt, add-mul, one-mul, div-add-mod', zero-add, le_trans}
use mathlib.Core.Path.{◌≡◌, ◌∙◌, ap}
use mathlib.Core.Logic.{⊎_elim}
use mathlib.Core.Bool.{true}
use Rattle.schedule.specs.Schedules.{stretch}
use Rattle.schedule.specs.Moments.{records_from}
use Rattle.numbers.proofs.Cases.{lt_cases}
use Rattle.schedule.proofs.Before.{stretch_add}
use Rattle.plan.specs.declared.Plan.{Plan}
use Rattle.plan.specs.declared.moments.Contents.{Contents}
use Rattle.plan.specs.Plans.{proper, run}
use Rattle.plan.specs.Moments.{contents_of}
use Rattle.plan.proofs.PlanMoments.{first_stretch}
use Rattle.plan.proofs.Proper.{proper_bounds}
use Rattle.plan.proofs.Runs.{run_later, period_total, stretch_periods, stretch_start, held_within, held_most, front_fullest, back_thinnest}
use Rattle.families.specs.Families.{required, least, available}

-- the least of f 0, .., f n is at most each of them, and at least whatever is at most all
least_le : (f : ℕ → ℕ) (n i : ℕ) → i ≤ n → least f n ≤ f i
unfolding least
least_le f zero i h = let z : i ≡ 0 = omega arith in rw z (omega arith)
least_le f (suc n) i h =
    ⊎_elim
    (λ q. omega (arith, least_le f n i (omega arith)))
    (λ q. let z : i ≡ suc n = omega arith in rw z (omega arith))
    (lt_cases i (suc n))

least_above : (f : ℕ → ℕ) (n b : ℕ) → ((i : ℕ) → b ≤ f i) → b ≤ least f n
unfolding least
least_above f zero b h = h 0
least_above f (suc n) b h = omega (arith, least_above f n b h, h (suc n))

-- what the first minutes of a plan hold is the stretch from minute 0 on
pub first_held : (p : Plan) (m : ℕ) {n : ℕ} {x : Contents} → x ≡ contents_of n (records_from (run p) 0 m) → x.records ≡ stretch (run p) 0 m
first_held p m e = ap (λ (x : Contents). x.records) e ∙ first_stretch p m

module _ (p : Plan) (ok : proper p ≡ true) where
  abbrev π : ℕ
  π = p.period

  abbrev δ : ℕ
  δ = p.total

  pub required_fullest : (r a : ℕ) → stretch (run p) a r ≤ required p r
  unfolding required
  required_fullest r a = front_fullest p ok a r

  pub required_most : (r : ℕ) → required p r ≤ r * 1000
  unfolding required
  required_most r = held_most p ok r

  -- the least is that of the stretch that ends with a period
  module _ (m : ℕ) where
    back : ℕ
    back = π - m % π

    part : m % π < π
    part = let known = proper_bounds p ok in mod-lt m (omega arith)

    back_least : (a : ℕ) → stretch (run p) back m ≤ stretch (run p) a m
    unfolding back
    back_least a =
        let d : m / π * π + m % π ≡ m = div-add-mod' m π in
        let u : (m / π + 1) * π ≡ m / π * π + π = rw (add-mul, one-mul) in
        let e : (m / π + 1) * π - m ≡ π - m % π = omega (arith, part) in
        rw e at (back_thinnest p ok m (m / π + 1) (omega (arith, part)) a)

    pub available_held : stretch (run p) (π - m % π) m ≡ available p m
    unfolding available back
    available_held =
        let f : ℕ → ℕ = λ a. stretch (run p) a m in
        let x : stretch (run p) back m ≤ least f (π - 1) = least_above f (π - 1) (stretch (run p) back m) back_least in
        let y : least f (π - 1) ≤ stretch (run p) back m =
        rw (stretch_start p ok back m)
        (least_le f (π - 1) (back % π) (let r : back % π < π = mod-lt back (omega (arith, part)) in omega arith)) in
        omega arith

    pub available_least : (a : ℕ) → available p m ≤ stretch (run p) a m
    unfolding back
    available_least a = rw (← available_held) (back_least a)

    pub available_closed : available p m ≡ (m / π + 1) * δ - stretch (run p) 0 (π - m % π)
    available_closed =
        let z : π - m % π + m % π ≡ π = omega (arith, part) in
        let a : stretch (run p) 0 π ≡ stretch (run p) 0 (π - m % π) + stretch (run p) (π - m % π) (m % π) =
        rw (z, zero-add) at (stretch_add (run p) (run_later p ok) 0 (π - m % π) (m % π)) in
        omega (arith, available_held, period_total p ok 0, stretch_periods p ok (π - m % π) m, add-mul (m / π) 1 δ, one-mul δ)

    pub front_fits : stretch (run p) 0 (π - m % π) ≤ (m / π + 1) * δ
    front_fits = omega (arith, held_within p ok 0 (π - m % π) (omega arith), add-mul (m / π) 1 δ, one-mul δ)

    pub available_most : available p m ≤ m * 1000
    available_most = le_trans (available_least 0) (held_most p ok m)
