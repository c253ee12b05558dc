-- At an allowed gap the arithmetic of `pairs_fit` says whether q pairs will do, and p is the fewest records that they can have.
-- From the arithmetic to the rules: the even sizes, of which j in a row hold about j × p / q.
-- From the rules to the arithmetic, of any sizes that repeat after c reports: c blocks of m laid end to end are m whole rounds, so where each
-- block of m holds L, c × L is at most m × the records of a round; and so with n and B.
use Prim.Native.Nat.{ℕ, ◌+◌, ◌*◌, ◌/◌, ◌≤◌, ◌<◌}
use native.Mathlib.Omega.{arith}
use native.Mathlib.Nat.{le_trans, le_refl, mul_comm, le-max_left, le-max_right, max-le, mul-le-mul_left}
use mathlib.Core.Path.{◌≡◌, refl, sym, ◌∙◌}
use mathlib.Core.Logic.{◌↔◌, ⊎_elim}
use mathlib.Core.Bool.{true, and-eq-true_iff}
use borrow.Author.Tests.{le-leb}
use Rattle.std.specs.Prelude.{Option, None, Some}
use Rattle.numbers.specs.Numbers.{ceil}
use Rattle.numbers.proofs.Cases.{lt_cases}
use Rattle.numbers.proofs.Ceilings.{ceil_le_iff}
use Rattle.spec.specs.declared.Rate.{Rate}
use Rattle.spec.specs.declared.Spec.{Spec}
use Rattle.spec.specs.Limits.{gap_allowed, gap_top}
use Rattle.spec.proofs.Facts.{leb_iff, size_allowed_iff}
use Rattle.schedule.specs.Schedules.{sum, stretch}
use Rattle.schedule.specs.Rules.{Obeys, SupplyKept, DemandMet}
use Rattle.schedule.proofs.Sums.{sum_add, sum_rounds, sum_block, block, block_none, block_most, block_least, one_fuller, one_thinner}
use Rattle.plan.specs.Plans.{even_size}
use Rattle.plan.proofs.EvenSizes.{even_size_most, even_size_least}
use Rattle.even.specs.Even.{count_at, supply_fits, evenly}
use Rattle.even.proofs.OneGap.{stretch_at_report, stretch_after_report}
use Rattle.even.proofs.EvenFits.{supply_kept, shared_met}
use Rattle.boxplan.specs.BoxPlan.{most_at, fewest_records, supply_holds, pairs_fit}
use Rattle.boxplan.proofs.Search.{FitAt}

-- what is asked of a specification, be it accepted or what planned minutes must meet
pub record Plans (s : Spec) : Type 0 where
  pub size_low : 1 ≤ s.dmin
  pub size_high : s.dmax ≤ 1000
  pub range : (g : ℕ) → gap_allowed s g ≡ true → (1 ≤ g) × (g ≤ 20160)
  pub rises : s.smax ≤ gap_top s
  pub needs : (x : Rate) → s.demand ≡ Some x → 1 ≤ x.records

-- q pairs with t records hold L in every m in a row, where they are spread evenly
abbrev pub Shares : Option Rate → ℕ → ℕ → ℕ → Type 0
Shares None m q t = Unit {0}
Shares (Some x) m q t = q * x.records ≤ m * t

-- p is the fewest records with dmin in each pair and L in every m
fewest_iff : (r : Option Rate) (dmin m q t : ℕ) → 0 < m → (fewest_records r dmin m q ≤ t) ↔ ((q * dmin ≤ t) × Shares r m q t)
unfolding fewest_records
fewest_iff None dmin m q t pos = (λ h. (h, tt), λ h. h.0)
fewest_iff (Some x) dmin m q t pos =
    let e = ceil_le_iff (q * x.records) m t pos in (
      λ h. (le_trans (le-max_left _ _) h, rw (mul_comm m t) (e.0 (le_trans (le-max_right (q * dmin) _) h))),
      λ h. max-le h.0 (e.1 (rw (mul_comm t m) h.1)),
    )

-- the even plan asks the same of supply
same_supply : (r : Option Rate) (g q p : ℕ) → supply_holds r (most_at r g) q p ≡ supply_fits r g q p
unfolding supply_holds most_at supply_fits
same_supply None g q p = refl
same_supply (Some x) g q p = refl

-- Numbers that repeat after c: blocks of m, c of them laid end to end, are m whole rounds.
module _ (f : ℕ → ℕ) (c : ℕ) (again : (i : ℕ) → f (i + c) ≡ f i) where
  laid_out : (lo m : ℕ) → block f lo (c * m) ≡ m * sum f c
  laid_out lo m = rw (mul_comm c m) (omega (arith, sum_add f lo (m * c), sum_rounds f c again lo m))

  round_least : (d m lo : ℕ) → ((j : ℕ) → d ≤ block f (lo + j) m) → c * d ≤ m * sum f c
  round_least d m lo h =
      ⊎_elim
      (λ few. let one = one_thinner f d m c lo (omega (arith, laid_out lo m)) in absurd (omega (arith, one.1, h one.0)))
      (λ q. q)
      (lt_cases (m * sum f c) (c * d))

  round_most : (b n : ℕ) → ((j : ℕ) → block f j n ≤ b) → n * sum f c ≤ c * b
  round_most b n h =
      ⊎_elim
      (λ many. let one = one_fuller f b n c 0 (omega (arith, laid_out 0 n)) in absurd (omega (arith, one.1, h one.0)))
      (λ q. q)
      (lt_cases (c * b) (n * sum f c))

module _ (g : ℕ) (pos : 0 < g) where
  demand_met : (r : Option Rate) (q t : ℕ) → 0 < q → Shares r (count_at r g) q t → DemandMet r (stretch (evenly g (even_size q t)))
  demand_met None q t some h = tt
  demand_met (Some x) q t some h = shared_met g pos x q t some h

  -- what the rules say of any sizes at this gap
  module _ (f : ℕ → ℕ) where
    block_enough : (x : Rate) → DemandMet (Some x) (stretch (evenly g f)) → (j : ℕ) → x.records ≤ block f (1 + j) (count_at (Some x) g)
    unfolding count_at
    block_enough x met j = let z : 1 + j ≡ j + 1 = omega arith in rw (z, ← stretch_after_report g pos f j x.minutes) (met (j * g + 1))

    demand_some : (r : Option Rate) → ((x : Rate) → r ≡ Some x → 1 ≤ x.records) → DemandMet r (stretch (evenly g f)) → 1 ≤ count_at r g
    unfolding count_at
    demand_some None needs met = omega arith
    demand_some (Some x) needs met =
        let m = x.minutes / g in
        ⊎_elim
        (λ q. q)
        (λ q. absurd (let z : m ≡ 0 = omega arith in let w = rw (z, block_none) at (block_enough x met 0) in omega (arith, needs x refl)))
        (lt_cases 0 m)

    -- and of those that repeat after c
    module _ (c : ℕ) (again : (i : ℕ) → f (i + c) ≡ f i) where
      demand_shared : (r : Option Rate) → DemandMet r (stretch (evenly g f)) → Shares r (count_at r g) c (sum f c)
      demand_shared None met = tt
      demand_shared (Some x) met = round_least f c again x.records (count_at (Some x) g) 1 (block_enough x met)

      -- with fewer records the supply is kept too
      supply_held : (r : Option Rate) (t : ℕ) → t ≤ sum f c → SupplyKept r (stretch (evenly g f)) → supply_holds r (most_at r g) c t ≡ true
      unfolding supply_holds most_at
      supply_held None t h kept = refl
      supply_held (Some x) t h kept =
          let n = ceil x.minutes g in
          le-leb _ _ (le_trans (mul-le-mul_left n h) (round_most f c again x.records n (λ j. rw (← stretch_at_report g pos f j x.minutes) (kept (j * g)))))

abbrev pub records_at : Spec → (g q : ℕ) → ℕ
records_at s g q = fewest_records s.demand s.dmin (count_at s.demand g) q

-- what the test says of q pairs
pub record Fitting (s : Spec) (g q : ℕ) : Type 0 where
  pub reached : 1 ≤ count_at s.demand g
  pub high : records_at s g q ≤ q * s.dmax
  pub supply : supply_holds s.supply (most_at s.supply g) q (records_at s g q) ≡ true

pub fitting_iff : (s : Spec) (g q : ℕ) → FitAt s g q ↔ Fitting s g q
unfolding pairs_fit
fitting_iff s g q = (
  λ e.
      let h = simp (and-eq-true_iff, leb_iff) at e in
      record { reached = h.0.0; high = h.0.1; supply = h.1 },
  λ h. simp (le-leb _ _ h.reached, le-leb _ _ h.high, h.supply),
)

module _ (s : Spec) (g q : ℕ) (fit : Fitting s g q) where
  pub shared : (q * s.dmin ≤ records_at s g q) × Shares s.demand (count_at s.demand g) q (records_at s g q)
  shared = (fewest_iff s.demand s.dmin (count_at s.demand g) q _ fit.reached).0 (le_refl _)

  -- sizes spread evenly obey
  pub fitting_obeys : 0 < g → gap_allowed s g ≡ true → 0 < q → Obeys s (evenly g (even_size q (records_at s g q)))
  fitting_obeys pos allowed some =
      let p = records_at s g q in
      record {
        sizes = λ i. (size_allowed_iff s _).1 (even_size_least q p some s.dmin i shared.0, even_size_most q p some s.dmax i fit.high);
        gaps = λ i. allowed;
        supply = supply_kept g pos s.supply q p some (sym (same_supply s.supply g q p) ∙ fit.supply);
        demand = demand_met g pos s.demand q p some shared.1;
      }

-- Sizes that repeat after c and obey the rules at the gap g: c pairs will do, and a round has no fewer records than p.
module _ (s : Spec) (known : Plans s) (g : ℕ) (f : ℕ → ℕ) (c : ℕ) (again : (i : ℕ) → f (i + c) ≡ f i) (obeys : Obeys s (evenly g f)) where
  pos : 0 < g
  pos = (known.range g (obeys.gaps 0)).0

  size_range : (i : ℕ) → (s.dmin ≤ f i) × (f i ≤ s.dmax)
  size_range i = (size_allowed_iff s (f i)).0 (obeys.sizes i)

  reached : 1 ≤ count_at s.demand g
  reached = demand_some g pos f s.demand known.needs obeys.demand

  pub records_least : records_at s g c ≤ sum f c
  records_least =
      (fewest_iff s.demand s.dmin (count_at s.demand g) c (sum f c) reached).1
      (rw (sum_block f c) (block_least f s.dmin (λ i. (size_range i).0) 0 c), demand_shared g pos f c again s.demand obeys.demand)

  pub obeys_fitting : Fitting s g c
  obeys_fitting = record {
    reached = reached;
    high = le_trans records_least (rw (sum_block f c) (block_most f s.dmax (λ i. (size_range i).1) 0 c));
    supply = supply_held g pos f c again s.supply _ records_least obeys.supply;
  }
