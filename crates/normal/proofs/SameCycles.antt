-- Two cycles have equal normal forms where the run of one, begun at some report, is that of the other: it has the same period and the same turns, so
-- neither normal form comes before the other. And the other way round: each of two runs with one normal form is that form's, begun at some report.
use Prim.Native.Nat.{ℕ, ◌+◌, ◌-◌, ◌*◌, ◌≤◌, ◌<◌}
use native.Mathlib.Omega.{arith}
use native.Mathlib.Nat.{add_assoc, zero-add, mod-eq_of_lt}
use mathlib.Core.Path.{◌≡◌, sym, ◌∙◌, ap}
use mathlib.Core.Logic.{◌↔◌}
use mathlib.Core.Bool.{true}
use mathlib.Core.List.{List}
use lib.ListN.{length}
use Rattle.std.proofs.lemmas.List.{ext_get_or}
use Rattle.schedule.specs.Schedules.{begun_at}
use Rattle.pairs.specs.declared.Pair.{Pair}
use Rattle.pairs.specs.Pairs.{no_pair}
use Rattle.cycle.specs.Cycles.{pair_gap, pair_size, cycle_run}
use Rattle.normal.specs.Normal.{pair_of, period, row, in_order, least_start, normal_form}
use Rattle.normal.proofs.Orders.{order_antisymmetric}
use Rattle.normal.proofs.Periods.{Begun, begun_again, begun_back, begun_twice, pair_place, pair_again, period_some, period_again, period_least, period_short}
use Rattle.normal.proofs.Turns.{row_length, row_at, row_same, normal_first, normal_length, normal_begun}

-- where the run of qs is that of ps begun at report k
module _ (ps qs : List Pair) (some : 1 ≤ length ps) (some' : 1 ≤ length qs) (k : ℕ) (b : Begun (pair_of ps) k (pair_of qs)) where
  period_le : period qs ≤ period ps
  period_le = period_least qs some' (period ps) (period_some ps some) (begun_again (pair_of ps) (period ps) k (pair_of qs) (period_again ps some) b)

  -- the normal form of qs is a turn of ps
  normal_turn : period ps ≡ period qs → row ps (k + least_start qs) (period ps) ≡ normal_form qs
  unfolding normal_form
  normal_turn e =
      let j = least_start qs in
      row_same ps qs (k + j) j (period ps) (λ m q. rw (b (j + m), add_assoc k j m)) ∙ ap (row qs j) e

  normal_le : period ps ≡ period qs → in_order (normal_form ps) (normal_form qs) ≡ true
  normal_le e = rw (normal_turn e) at (normal_first ps some (k + least_start qs))

module _ (ps qs : List Pair) (some : 1 ≤ length ps) (some' : 1 ≤ length qs) where
  begun_period : (k : ℕ) → Begun (pair_of ps) k (pair_of qs) → period ps ≡ period qs
  begun_period k b =
      let back = begun_back (pair_of ps) (length ps) k (pair_of qs) some (pair_again ps) b in
      omega (arith, period_le ps qs some some' k b, period_le qs ps some' some (k * (length ps - 1)) back)

  begun_normal : (k : ℕ) → Begun (pair_of ps) k (pair_of qs) → normal_form ps ≡ normal_form qs
  begun_normal k b =
      let back = begun_back (pair_of ps) (length ps) k (pair_of qs) some (pair_again ps) b in
      let e = begun_period k b in
      order_antisymmetric _ _ (normal_le ps qs some some' k b e) (normal_le qs ps some' some (k * (length ps - 1)) back (sym e))

  normal_runs : normal_form ps ≡ normal_form qs → (k : ℕ) × Begun (pair_of ps) k (pair_of qs)
  normal_runs e =
      let b : Begun (pair_of ps) (least_start ps) (pair_of (normal_form qs)) = rw e at (normal_begun ps some) in
      let j = least_start qs * (length qs - 1) in
      let back = begun_back (pair_of qs) (length qs) (least_start qs) (pair_of (normal_form qs)) some' (pair_again qs) (normal_begun qs some') in
      (least_start ps + j, begun_twice (pair_of ps) (pair_of (normal_form qs)) (pair_of qs) (least_start ps) j b back)

-- schedules against pairs
module _ (ps qs : List Pair) (k : ℕ) where
  run_begun : Begun (pair_of ps) k (pair_of qs) → cycle_run qs ≡ begun_at (cycle_run ps) k
  unfolding cycle_run begun_at pair_of pair_gap pair_size
  run_begun b = λ i. record { size = λ n. (b n i).size; gap = λ n. (b n i).gap }

  begun_run : cycle_run qs ≡ begun_at (cycle_run ps) k → Begun (pair_of ps) k (pair_of qs)
  unfolding cycle_run begun_at pair_of pair_gap pair_size
  begun_run e i = λ j. record { size = (e j).size i; gap = (e j).gap i }

pub same_cycle : (ps qs : List Pair) → 1 ≤ length ps → 1 ≤ length qs → (normal_form ps ≡ normal_form qs) ↔ ((k : ℕ) × (cycle_run qs ≡ begun_at (cycle_run ps) k))
same_cycle ps qs some some' = (
  λ e. let r = normal_runs ps qs some some' e in (r.0, run_begun ps qs r.0 r.1),
  λ r. begun_normal ps qs some some' r.0 (begun_run ps qs r.0 r.1),
)

-- the normal form is a cycle of no more pairs, whose run is the cycle's, begun at some report
module _ (ps : List Pair) (some : 1 ≤ length ps) where
  pub normal_some : 1 ≤ length (normal_form ps)
  normal_some = rw (normal_length ps some) (period_some ps some)

  pub normal_short : length (normal_form ps) ≤ length ps
  normal_short = rw (normal_length ps some) (period_short ps some)

  pub normal_run : cycle_run (normal_form ps) ≡ begun_at (cycle_run ps) (least_start ps)
  normal_run = run_begun ps (normal_form ps) (least_start ps) (normal_begun ps some)

  -- and back
  pub run_normal : (k : ℕ) × (cycle_run ps ≡ begun_at (cycle_run (normal_form ps)) k)
  run_normal =
      let k = least_start ps * (length ps - 1) in
      (k, run_begun (normal_form ps) ps k (begun_back (pair_of ps) (length ps) (least_start ps) (pair_of (normal_form ps)) some (pair_again ps) (normal_begun ps some)))

  pub normal_twice : normal_form (normal_form ps) ≡ normal_form ps
  normal_twice = sym (begun_normal ps (normal_form ps) some normal_some (least_start ps) (normal_begun ps some))

-- a list is its first round
row_whole : (qs : List Pair) → row qs 0 (length qs) ≡ qs
row_whole qs =
    ext_get_or no_pair (row qs 0 (length qs)) qs (row_length qs 0 (length qs))
    (λ i h.
    let q : i < length qs = rw (row_length qs 0 (length qs)) at h in
    row_at qs 0 (length qs) i q ∙ rw (zero-add i, pair_place qs i, mod-eq_of_lt q))

-- of all lists of which this is said, none is shorter, and none as short comes before it
pub normal_least : (ps qs : List Pair) (k : ℕ) → 1 ≤ length ps → 1 ≤ length qs → cycle_run qs ≡ begun_at (cycle_run ps) k
    → (length (normal_form ps) ≤ length qs) × (length (normal_form ps) ≡ length qs → in_order (normal_form ps) qs ≡ true)
normal_least ps qs k some some' run =
    let b = begun_run ps qs k run in
    let e = begun_period ps qs some some' k b in
    let n = normal_length ps some in (
      omega (arith, period_short qs some'),
      λ same.
          let turn : row ps k (period ps) ≡ qs =
          row_same ps qs k 0 (period ps) (λ m q. rw (zero-add m) (sym (b m))) ∙ rw (sym n ∙ same) (row_whole qs) in
          rw turn at (normal_first ps some k),
    )
