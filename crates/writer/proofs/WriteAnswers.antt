-- What writing answers and leaves behind, by cases. Assumes nothing.
use mathlib.Core.Path.{◌≡◌, ◌∙◌}
use Prim.Native.Nat.{ℕ, ◌*◌, ◌≤◌, ◌<◌, zero-le}
use native.Mathlib.Omega.{arith}
use mathlib.Core.Bool.{true, false, and-false}
use mathlib.Core.List.{List, [], ◌∷◌}
use lib.ListN.{length, length-append}
use lib.Seq.{sets}
use borrow.Author.Tests.{lt-ltb, le-ltb, ne_eqb}
use Rattle.spec.specs.declared.refusal.Refusal.{Refusal}
use Rattle.spec.specs.Refusals.{number_of}
use Rattle.spec.proofs.Refusals.{number_of_some}
use Rattle.pairs.specs.declared.Pair.{Pair}
use Rattle.pairs.specs.Pairs.{count_in, that_fit}
use Rattle.pairs.proofs.Counts.{fit_cases}
use Rattle.std.specs.Prelude.{Option, None, Some}
use Rattle.cyclefile.specs.File.{bytes_of, pairs_bytes, cycle_bytes, write_number, bytes_after, Writes}
use Rattle.cyclefile.proofs.Fields.{pair_bytes_small, length_cycle_bytes}
use Rattle.writer.proofs.StoredBytes.{count_and_pairs}

module _ (ps : List Pair) (file : List ℕ) where
  pub bad_count : count_in (length ps) ≡ false → (12 ≡ write_number (length file) ps) × (file ≡ bytes_after ps file)
  unfolding write_number
  bad_count h = (simp h, simp h)

  module _ (counted : count_in (length ps) ≡ true) where
    pub few_bytes : length file < length (cycle_bytes ps) → (20 ≡ write_number (length file) ps) × (file ≡ bytes_after ps file)
    unfolding write_number
    few_bytes h = let few = lt-ltb (length file) (length (cycle_bytes ps)) h in (simp (counted, few), simp (counted, few))

    pub stored_whole : length (cycle_bytes ps) ≤ length file → (0 ≡ write_number (length file) ps) × (sets (sets file 0 (bytes_of (length ps))) 2 (pairs_bytes None ps) ≡ bytes_after ps file)
    unfolding write_number
    stored_whole h = let room = le-ltb (length file) (length (cycle_bytes ps)) h in (simp (counted, room), simp (counted, room) (count_and_pairs ps file h))

-- the length of a file that is written fits 32 bits
pairs_bytes_small : (before : Option Pair) (ps : List Pair) → length (pairs_bytes before ps) ≤ 5 * length ps
unfolding pairs_bytes
pairs_bytes_small before [] = zero-le
pairs_bytes_small before (p ∷ ps) = rw length-append (omega (arith, pair_bytes_small before p, pairs_bytes_small (Some p) ps))

pub file_small : (ps : List Pair) → length ps ≤ 512 → length (cycle_bytes ps) ≤ 2562
file_small ps h = omega (arith, length_cycle_bytes ps, pairs_bytes_small None ps)

-- so a call that hands on the answer as a number, and the length where there is one, writes as it should
module _ (ps : List Pair) (file file' : List ℕ) (written : ℕ) (bytes : file' ≡ bytes_after ps file) where
  pub told_stored : (n : ℕ) → 0 ≡ write_number (length file) ps → n ≡ length (cycle_bytes ps) → Writes ps file written 0 file' n
  told_stored n number long = record { answer_is = number; bytes_are = bytes; written_is = rw (← number) long }

  pub told_refused : (r : Refusal) → number_of r ≡ write_number (length file) ps → Writes ps file written (number_of r) file' written
  told_refused r number = record { answer_is = number; bytes_are = bytes; written_is = let some = number_of_some r in rw (← number, ne_eqb (number_of r) 0 (λ z. omega arith)) }

-- more than 512 pairs are not written, and neither are none: 12
pub fit_writes : (ps : List Pair) (file : List ℕ) (old r : ℕ) (file' : List ℕ) (new : ℕ) → Writes (that_fit 512 ps) file old r file' new → Writes ps file old r file' new
unfolding write_number
fit_writes ps file old r file' new =
    fit_cases 512 ps (λ (qs : List Pair). Writes qs file old r file' new → Writes ps file old r file' new) (λ e w. w) (λ e w.
    let too_many : count_in (length ps) ≡ false = rw (e, and-false) in
    record { answer_is = w.answer_is ∙ simp too_many; bytes_are = w.bytes_are ∙ simp too_many; written_is = w.written_is ∙ simp too_many })
