-- The pairs of a plan, laid in front of lent words.
use Prim.Native.Nat.{ℕ, ◌+◌, ◌*◌, ◌≤◌, ◌<◌}
use native.Mathlib.Omega.{arith}
use native.Mathlib.Nat.{zero-add}
use mathlib.Core.Path.{◌≡◌, ap, ◌∙◌}
use mathlib.Core.List.{List}
use lib.ListN.{length, get_or, set, take}
use lib.Seq.{take_all, take_at}
use Rattle.plan.specs.declared.Plan.{Plan}
use Rattle.plan.specs.Plans.{run}
use Rattle.pairs.specs.Pairs.{no_pair, flatten, pairs_of, laid_over}
use Rattle.pairs.proofs.FlatLists.{length_flatten, pairs_of_flatten}
use Rattle.pairs.proofs.Unpacked.{laid, laid_next}
use Rattle.planfile.specs.PlanFile.{plan_pairs}
use Rattle.planfile.proofs.Written.{length_plan_pairs, pair_from}

module _ (p : Plan) (old : List ℕ) (room : 2 * p.count ≤ length old) where
  -- one pair more
  pub laid_report : {i gap size : ℕ} → i < p.count → gap ≡ (run p).gap i → size ≡ (run p).size i
      → set (set (laid (plan_pairs p) old i) (2 * i) gap) (2 * i + 1) size ≡ laid (plan_pairs p) old (i + 1)
  unfolding plan_pairs
  laid_report {i} h eg es =
      let k : get_or (plan_pairs p) i no_pair ≡ record { gap = (run p).gap i; size = (run p).size i } = pair_from (run p) 0 p.count i h ∙ rw zero-add in
      rw (eg, es) (rw k at (laid_next (plan_pairs p) old i (rw (length_plan_pairs p) h) (omega arith)))

  -- all of them
  pub laid_all : {i : ℕ} → p.count ≤ i → laid (plan_pairs p) old i ≡ laid_over (flatten (plan_pairs p)) old
  laid_all {i} h = rw (take_all i (plan_pairs p) (rw (length_plan_pairs p) h))

-- and then the words in front are read as the pairs
pub pairs_in_front : (p : Plan) (old : List ℕ) → pairs_of (take (2 * p.count) (laid_over (flatten (plan_pairs p)) old)) ≡ plan_pairs p
pairs_in_front p old =
    ap pairs_of (take_at (flatten (plan_pairs p)) _ (2 * p.count) (length_flatten (plan_pairs p) ∙ ap (λ (n : ℕ). 2 * n) (length_plan_pairs p)))
    ∙ pairs_of_flatten (plan_pairs p)
