-- What is given beside the check's number. A 15 or a 16 is the cycle's own number, so its specification is accepted, its count is right, and no gap
-- and no size is 0: some row shows it (proofs/Shown.antt), no longer than the minutes, and the shortest is given.
use Prim.Native.Nat.{ℕ, ◌+◌, ◌≤◌, ◌<◌}
use native.Mathlib.Omega.{arith}
use native.Mathlib.Decide.{ℕ_discrete}
use mathlib.Core.Path.{◌≡◌, refl, sym, ◌∙◌, ap}
use mathlib.Core.Logic.{◌↔◌, ⊎_elim}
use mathlib.Core.Bool.{Bool, true, and-eq-true_iff}
use mathlib.Core.List.{List}
use lib.ListN.{length}
use borrow.Author.Tests.{eq-eqb, ne_eqb, le-leb}
use Rattle.std.specs.Prelude.{Option, None, Some}
use Rattle.numbers.proofs.Cases.{lt_cases}
use Rattle.spec.specs.declared.Rate.{Rate}
use Rattle.spec.specs.declared.Spec.{Spec}
use Rattle.spec.specs.Limits.{rate_limits}
use Rattle.spec.proofs.Facts.{leb_iff, facts, size_allowed_iff}
use Rattle.pairs.specs.declared.Pair.{Pair}
use Rattle.pairs.specs.Pairs.{that_fit}
use Rattle.schedule.specs.Schedules.{Schedule, stretch}
use Rattle.schedule.specs.Rules.{TooFull, TooThin}
use Rattle.cycle.specs.declared.Row.{Row}
use Rattle.cycle.specs.declared.windows.Measure.TheVariants.{Minutes, Records}
use Rattle.cycle.specs.Cycles.{cycle_run}
use Rattle.cycle.specs.Check.{gaps_allowed, sizes_allowed, check_number}
use Rattle.cycle.specs.Shortest.{shows_full, shows_thin, shortest_full, shortest_thin, shortest_stretch, IsShortest, IsGiven}
use Rattle.cycle.specs.Windows.{pairs_in, Walkable}
use Rattle.cycle.proofs.Chunks.{length_pairs_in}
use Rattle.cycle.proofs.Runs.{gap_again, size_again, sizes_right}
use Rattle.cycle.proofs.Steps.{walkable}
use Rattle.cycle.proofs.Numbers.{fit_check}
use Rattle.cycle.proofs.Planned.{accepted_judges}
use Rattle.cycle.proofs.CyclesPassed.{cycle_own, cycle_said, supply_refused, demand_refused}
use Rattle.cycle.proofs.ShortestRows.{shortest_is}
use Rattle.cycle.proofs.ShownRows.{by_records, full_few, thin_few, full_again, thin_again}
use Rattle.cycle.proofs.Shown.{full_most, thin_most, full_shown, thin_shown}

-- a cycle that got as far as its stretches
pub record Reached (ps : List Pair) : Type 0 where
  pub walkable : Walkable ps
  pub sizes : (i : ℕ) → 1 ≤ (cycle_run ps).size i

pub reached : (spec : Spec) (ps : List Pair) (n : ℕ) → 15 ≤ n → n ≤ 16 → check_number spec ps ≡ n → Reached ps
reached spec ps n low high e =
    let own = cycle_own spec ps n (omega arith) high e in
    let said = cycle_said spec ps in
    let tests : (gaps_allowed spec ps ≡ true) × (sizes_allowed spec ps ≡ true) =
    elim (ℕ_discrete n 15) [
      | yes z ↦ let t = said.is_15 (own.1 ∙ z) in (t.0, t.1)
      | no z ↦ let is_16 : n ≡ 16 = omega arith in let t = said.is_16 (own.1 ∙ is_16) in (t.0, t.1)
    ] in
    let ok = walkable spec ps (accepted_judges spec own.0) (said.counted (omega (arith, own.1))) tests.0 in
    record {
      walkable = ok;
      sizes = λ i. omega (arith, ((size_allowed_iff spec ((cycle_run ps).size i)).0 ((sizes_right ps ok.some spec).0 tests.1 i)).0, (facts spec own.0).size_low);
    }

-- seen by its records it can be walked over too
pub walkable_by_records : (xs : List (List ℕ)) → Reached (pairs_in Minutes xs) → Walkable (pairs_in Records xs)
walkable_by_records xs r = record {
  some = rw (length_pairs_in Records xs, ← length_pairs_in Minutes xs) r.walkable.some;
  few = rw (length_pairs_in Records xs, ← length_pairs_in Minutes xs) r.walkable.few;
  later = λ i. rw (ap (λ (s : Schedule). s.gap i) (by_records xs)) (r.sizes i);
}

module _ (spec : Spec) (ps : List Pair) where
  pub given_15 : check_number spec ps ≡ 15 → shortest_stretch spec ps ≡ shortest_full spec.supply ps
  unfolding shortest_stretch
  given_15 e = rw (eq-eqb (check_number spec ps) 15 e)

  pub given_16 : check_number spec ps ≡ 16 → shortest_stretch spec ps ≡ shortest_thin spec.demand ps
  unfolding shortest_stretch
  given_16 e = rw (ne_eqb (check_number spec ps) 15 (omega arith), eq-eqb (check_number spec ps) 16 e)

  pub given_other : ¬ (check_number spec ps ≡ 15) → ¬ (check_number spec ps ≡ 16) → shortest_stretch spec ps ≡ None
  unfolding shortest_stretch
  given_other h k = rw (ne_eqb (check_number spec ps) 15 h, ne_eqb (check_number spec ps) 16 k)

  -- the shortest row of each
  full_is_given : Reached ps → (rate : Option Rate) → TooFull rate (stretch (cycle_run ps)) → IsGiven shows_full rate ps (shortest_full rate ps)
  unfolding shortest_full
  full_is_given r None h = absurd h
  full_is_given r (Some x) h =
      let ok = r.walkable in
      let s = cycle_run ps in
      let k = (full_shown ps ok.some ok.later x).0 h in
      let found = shortest_is (shows_full x s) (length ps) x.minutes ok.some (full_again s x (length ps) (gap_again ps) (size_again ps)) k.0 k.1.0 (full_few s ok.later x k.0 k.1.0 k.1.1) k.1.1 in
      (x, (found.0, (refl, found.1)))

  thin_is_given : Reached ps → (rate : Option Rate) → TooThin rate (stretch (cycle_run ps)) → IsGiven shows_thin rate ps (shortest_thin rate ps)
  unfolding shortest_thin
  thin_is_given r None h = absurd h
  thin_is_given r (Some x) h =
      let ok = r.walkable in
      let s = cycle_run ps in
      let any = (thin_shown ps ok.some ok.later x).0 h in
      let k = thin_few s ok.later x any.0 any.1.0 any.1.1 in
      let found = shortest_is (shows_thin x s) (length ps) x.minutes ok.some (thin_again s x (length ps) (gap_again ps) (size_again ps)) k.0 k.1.0 k.1.1.0 k.1.1.1 in
      (x, (found.0, (refl, found.1)))

  pub shown_15 : check_number spec ps ≡ 15 → IsGiven shows_full spec.supply ps (shortest_stretch spec ps)
  shown_15 e = rw (given_15 e) (full_is_given (reached spec ps 15 (omega arith) (omega arith) e) spec.supply (supply_refused spec ps e))

  pub shown_16 : check_number spec ps ≡ 16 → IsGiven shows_thin spec.demand ps (shortest_stretch spec ps)
  shown_16 e = rw (given_16 e) (thin_is_given (reached spec ps 16 (omega arith) (omega arith) e) spec.demand (demand_refused spec ps e))

  -- and no row with another number
  pub none_shown : (shortest_stretch spec ps ≡ None) ↔ (¬ (check_number spec ps ≡ 15) × ¬ (check_number spec ps ≡ 16))
  none_shown = (
    λ none. (λ e. not_some (sym none ∙ (shown_15 e).1.1.1.0), λ e. not_some (sym none ∙ (shown_16 e).1.1.1.0)),
    λ h. given_other h.0 h.1,
  )
    where
      not_some : {row : Row} → ¬ (None ≡ Some row)
      not_some e = cc

  -- B and L are 20,000 at most
  given_few : (shows : Rate → Schedule → ℕ → ℕ → Bool) (rate : Option Rate) → rate_limits rate ≡ true → IsGiven shows rate ps (shortest_stretch spec ps)
      → ((x : Rate) (row : Row) → IsShortest (shows x (cycle_run ps)) (length ps) row → row.reports ≤ x.records + 1)
      → (row : Row) → shortest_stretch spec ps ≡ Some row → row.reports ≤ 20001
  unfolding rate_limits
  given_few shows rate limits (x, (other, (is, (given, shortest)))) most row e =
      let same : Some row ≡ Some other = sym e ∙ given in
      let one : row ≡ other = cc in
      let fits = simp (and-eq-true_iff, leb_iff) at (rw is at limits) in
      rw one (omega (arith, most x other shortest))

  pub few_shown : (row : Row) → shortest_stretch spec ps ≡ Some row → row.reports ≤ 20001
  few_shown row e = elim (ℕ_discrete (check_number spec ps) 15) [
    | yes h ↦
        let r = reached spec ps 15 (omega arith) (omega arith) h in
        given_few shows_full spec.supply (facts spec (cycle_own spec ps 15 (omega arith) (omega arith) h).0).supply (shown_15 h) (λ x. full_most (cycle_run ps) r.sizes x (length ps)) row e
    | no h ↦ elim (ℕ_discrete (check_number spec ps) 16) [
      | yes k ↦
          let r = reached spec ps 16 (omega arith) (omega arith) k in
          given_few shows_thin spec.demand (facts spec (cycle_own spec ps 16 (omega arith) (omega arith) k).0).demand (shown_16 k) (λ x. thin_most (cycle_run ps) r.sizes x (length ps)) row e
      | no k ↦ absurd (let z : None ≡ Some row = sym (given_other h k) ∙ e in let y : ◌≡◌ {A = ℕ} 0 1 = cc in omega arith)
    ]
  ]

-- of more than 512 pairs no more is shown than of none
pub fit_shortest : (spec : Spec) (ps : List Pair) → shortest_stretch spec (that_fit 512 ps) ≡ shortest_stretch spec ps
fit_shortest spec ps = ⊎_elim (λ many. none many (that_fit 512 ps) (fit_check spec ps) ∙ sym (none many ps refl)) (λ few. rw (le-leb (length ps) 512 few)) (lt_cases 512 (length ps))
  where
    none : 512 < length ps → (qs : List Pair) → check_number spec qs ≡ check_number spec ps → shortest_stretch spec qs ≡ None
    none many qs e =
        given_other spec qs
        (λ z. absurd (omega (arith, (reached spec ps 15 (omega arith) (omega arith) (sym e ∙ z)).walkable.few)))
        (λ z. absurd (omega (arith, (reached spec ps 16 (omega arith) (omega arith) (sym e ∙ z)).walkable.few)))
