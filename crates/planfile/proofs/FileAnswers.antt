-- What writing a plan out answers and leaves in the lent bytes, by cases.
use Prim.Native.Nat.{ℕ, ◌<◌}
use native.Mathlib.Omega.{arith}
use mathlib.Core.Path.{◌≡◌}
use mathlib.Core.Bool.{true, false, and-false}
use mathlib.Core.List.{List}
use lib.ListN.{length}
use borrow.Author.Tests.{lt-leb, ne_eqb}
use Rattle.std.specs.Prelude.{Result, Ok, Err, IsErrAnd}
use Rattle.std.proofs.lemmas.Result.{err_from_is_err_and}
use Rattle.spec.specs.declared.refusal.Refusal.{Refusal}
use Rattle.spec.specs.Refusals.{number_of, numbered}
use Rattle.spec.specs.Limits.{if_none}
use Rattle.plan.specs.declared.Plan.{Plan}
use Rattle.plan.specs.Plans.{proper}
use Rattle.cyclefile.specs.File.{cycle_bytes, write_number, file_answer, bytes_after}
use Rattle.writer.proofs.WriteAnswers.{bad_count}
use Rattle.planfile.specs.PlanFile.{plan_pairs, plan_file, file_after}
use Rattle.planfile.proofs.Written.{length_plan_pairs}

module _ (p : Plan) (old : List ℕ) where
  -- so many bytes, or a number, and what the lent bytes hold then
  abbrev Tells : Result ℕ ℕ → List ℕ → Type 0
  Tells answer new = record { number : answer ≡ file_answer (plan_file (length old) p); bytes : new ≡ file_after (plan_file (length old) p) old }

  -- `?` hands on the refusal
  pub handed : (x : Result ℕ Refusal) (r : Refusal) (new : List ℕ) → Tells (Err (number_of r)) new → IsErrAnd x (λ e. e ≡ r) → Tells (numbered x) new
  handed x r new told is = let e = err_from_is_err_and x is in rw (e.1, e.2) told

  pub not_proper : proper p ≡ false → Tells (Err 11) old
  unfolding plan_file
  not_proper h = record { number = rw h; bytes = rw h }

  module _ (ok : proper p ≡ true) where
    -- by the number of writing the pairs
    pub refused : {n : ℕ} → n ≡ write_number (length old) (plan_pairs p) → ¬ (n ≡ 0) → Tells (Err n) (bytes_after (plan_pairs p) old)
    unfolding plan_file if_none
    refused {n} e some = let z = ne_eqb n 0 some in record { number = rw (ok, ← e, z); bytes = rw (ok, ← e, z) }

    pub written : 0 ≡ write_number (length old) (plan_pairs p) → Tells (Ok (length (cycle_bytes (plan_pairs p)))) (bytes_after (plan_pairs p) old)
    unfolding plan_file if_none
    written e = record { number = rw (ok, ← e); bytes = rw (ok, ← e) }

    -- more than 512 pairs are not written
    pub too_many : 512 < p.count → Tells (Err 12) old
    too_many h =
        let k = bad_count (plan_pairs p) old (rw (length_plan_pairs p, lt-leb p.count 512 h, and-false)) in
        rw (← k.1) at (refused k.0 (λ z. omega arith))
