-- Reading a dated file: one that can be read has a whole day, and what follows it reads as its cycle; every other gives a number of
-- reading, and its day counts for nothing. A day before a written cycle is read, and a file that is read was written so. Assumes nothing.
use mathlib.Core.Path.{◌≡◌, refl, sym, ap, ◌∙◌}
use Prim.Native.Nat.{ℕ, ◌+◌, ◌≤◌, ◌<◌}
use native.Mathlib.Nat.{zero-add}
use native.Mathlib.Omega.{arith}
use mathlib.Core.Logic.{◌⊎◌, inl, inr}
use mathlib.Core.Bool.{Bool, true, false}
use mathlib.Core.List.{List, ◌++◌}
use lib.Dec.{ltb}
use lib.ListN.{length, drop, take-append-drop}
use lib.Seq.{get_or-drop}
use borrow.Author.Tests.{lt-ltb, le-ltb, ltb-true, ltb-false}
use Rattle.std.specs.Prelude.{Result, Ok, Err}
use Rattle.pairs.specs.declared.Pair.{Pair}
use Rattle.cyclefile.specs.File.{AreBytes, bytes_of, cycle_bytes, read_cycle}
use Rattle.cyclefile.proofs.Refusals.{RefusalWithRoom, numbered_with_room}
use Rattle.cyclefile.proofs.RoundTrip.{joined, field_kept, reads_back, writes_back}
use Rattle.dated.specs.InForce.{issue_day, cycle_part, read_dated, read_day, Readable}

module _ (file : List ℕ) where
  -- ---- what the day decides

  pub no_day : length file < 2 → read_dated file ≡ Err 18
  unfolding read_dated
  no_day h = rw (lt-ltb (length file) 2 h)

  pub past_day : 2 ≤ length file → read_dated file ≡ read_cycle 512 (cycle_part file)
  unfolding read_dated
  past_day h = rw (le-ltb (length file) 2 h)

  -- ---- a file that can be read, and one that can't

  long_by : (c : List Pair) (t : Bool) → ltb (length file) 2 ≡ t → read_dated file ≡ Ok c → 2 ≤ length file
  long_by c true e h = let k = sym (no_day (ltb-true (length file) 2 e)) ∙ h in cc
  long_by c false e h = ltb-false (length file) 2 e

  pub has_day : Readable file → 2 ≤ length file
  has_day r = long_by r.0 (ltb (length file) 2) refl r.1

  pub part_read : (r : Readable file) → read_cycle 512 (cycle_part file) ≡ Ok r.0
  part_read r = sym (past_day (has_day r)) ∙ r.1

  pub day_counts : Readable file → read_day file ≡ Ok (issue_day file)
  unfolding read_day
  day_counts r = rw r.1

  pub no_day_counts : {n : ℕ} → read_dated file ≡ Err n → read_day file ≡ Err n
  unfolding read_day
  no_day_counts e = rw e

  pub not_readable : {n : ℕ} → read_dated file ≡ Err n → ¬ (Readable file)
  not_readable e r = absurd (let k = sym r.1 ∙ e in cc)

  either_by : (r : Result (List Pair) ℕ) → read_dated file ≡ r → Readable file ⊎ ((n : ℕ) × (read_dated file ≡ Err n))
  either_by (Ok c) e = inl (c, e)
  either_by (Err n) e = inr (n, e)

  pub either : Readable file ⊎ ((n : ℕ) × (read_dated file ≡ Err n))
  either = either_by (read_dated file) refl

  numbered_by : (n : ℕ) (t : Bool) → ltb (length file) 2 ≡ t → read_dated file ≡ Err n → RefusalWithRoom n
  numbered_by n true e h = inr (inl (let k = sym (no_day (ltb-true (length file) 2 e)) ∙ h in let z : 18 ≡ n = cc in (omega arith, omega arith)))
  numbered_by n false e h = numbered_with_room (cycle_part file) n (sym (past_day (ltb-false (length file) 2 e)) ∙ h)

  read_by : Readable file ⊎ ((n : ℕ) × (read_dated file ≡ Err n)) → Readable file ⊎ ((n : ℕ) × (read_dated file ≡ Err n) × RefusalWithRoom n)
  read_by (inl r) = inl r
  read_by (inr (n, e)) = inr (n, e, numbered_by n (ltb (length file) 2) refl e)

  pub dated_is_read : Readable file ⊎ ((n : ℕ) × (read_dated file ≡ Err n) × RefusalWithRoom n)
  dated_is_read = read_by either

  -- ---- what is read was written so

  pub part_bytes : AreBytes file → AreBytes (cycle_part file)
  part_bytes small i = rw get_or-drop (small (2 + i))

  pub was_written : AreBytes file → (r : Readable file) → bytes_of (issue_day file) ++ cycle_bytes r.0 ≡ file
  was_written small r =
      ap (λ (l : List ℕ). bytes_of (issue_day file) ++ l) (writes_back 512 (cycle_part file) r.0 (part_bytes small) (part_read r))
      ∙ ap (λ (l : List ℕ). l ++ drop 2 file) (sym (field_kept true file 0 small (rw zero-add (has_day r))))
      ∙ take-append-drop 2 file

-- what is written can be read, with its day
pub is_read : (day : ℕ) (c : List Pair) → 1 ≤ length c → length c ≤ 512 → (issue_day (bytes_of day ++ cycle_bytes c) ≡ day) × (read_dated (bytes_of day ++ cycle_bytes c) ≡ Ok c)
is_read day c some few = (joined day, past_day (bytes_of day ++ cycle_bytes c) (omega arith) ∙ reads_back 512 c some few few)
