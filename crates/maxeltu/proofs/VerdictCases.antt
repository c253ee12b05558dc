-- The cases of the loader's call once its specification is accepted: the first number met is the file's, or the check's.
use Prim.Native.Nat.{ℕ}
use mathlib.Core.Path.{◌≡◌}
use mathlib.Core.List.{List}
use Rattle.std.specs.Prelude.{Ok, Err}
use Rattle.spec.specs.declared.Spec.{Spec}
use Rattle.spec.specs.File.{read_spec}
use Rattle.pairs.specs.declared.Pair.{Pair}
use Rattle.pairs.specs.Pairs.{pairs_of, flatten}
use Rattle.pairs.proofs.FlatLists.{pairs_of_flatten}
use Rattle.cycle.specs.Check.{check_number}
use Rattle.cyclefile.specs.File.{read_cycle}
use Rattle.maxeltu.specs.Verdict.{verdict_read, verdict_of}

module _ (bytes file : List ℕ) {s : Spec} (accepted : Ok s ≡ read_spec bytes) where
  pub file_refused : {n : ℕ} → read_cycle 512 file ≡ Err n → n ≡ verdict_of bytes file
  unfolding verdict_of verdict_read
  file_refused e = rw (← accepted, e)

  pub both_read : (words : List ℕ) (ps : List Pair) {n : ℕ} → read_cycle 512 file ≡ Ok ps → words ≡ flatten ps → n ≡ check_number s (pairs_of words) → n ≡ verdict_of bytes file
  unfolding verdict_of verdict_read
  both_read words ps e w k = rw (← accepted, e, k, w, pairs_of_flatten ps)
