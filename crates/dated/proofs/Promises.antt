-- What is promised of every two lent files beside their answer: that the part is a written cycle exactly where a file is told, and where the
-- order of the two matters. By what makes each answer be given. Assumes nothing.
use mathlib.Core.Path.{◌≡◌, refl, sym, ap, ◌∙◌}
use Prim.Native.Nat.{ℕ}
use native.Mathlib.Omega.{arith}
use mathlib.Core.Logic.{◌⊎◌, inl, inr, ⊎_elim, ◌↔◌}
use mathlib.Core.List.{List, []}
use Rattle.std.specs.Prelude.{Result, Ok, Err}
use Rattle.pairs.specs.declared.Pair.{Pair}
use Rattle.cyclefile.specs.File.{AreBytes, cycle_bytes, read_cycle}
use Rattle.cyclefile.proofs.WholeFile.{no_count}
use Rattle.cyclefile.proofs.RoundTrip.{writes_back}
use Rattle.dated.specs.declared.InForce.{InForce}
use Rattle.dated.specs.declared.InForce.TheVariants.{First, Second}
use Rattle.dated.specs.InForce.{read_dated, in_force, part_of, part_in_force, Readable, swapped}
use Rattle.dated.proofs.Readings.{part_read, part_bytes, not_readable, either}
use Rattle.dated.proofs.Chosen.{Told, tells_first, tells_second, tells_number, told, in_force_first, in_force_second, same_or_not}

module _ (a b : List ℕ) where
  -- ---- the part

  abbrev PartRead : Result InForce ℕ → Type 0
  PartRead r = (c : List Pair) × (read_cycle 512 (part_of r a b) ≡ Ok c)

  told_by : (r : Result InForce ℕ) → PartRead r → (w : InForce) × (r ≡ Ok w)
  told_by (Ok w) p = (w, refl)
  told_by (Err n) p = absurd (let k = sym (no_count 512 [] (omega arith)).0 ∙ p.1 in cc)

  read_by : (r : Result InForce ℕ) → in_force a b ≡ r → (w : InForce) → r ≡ Ok w → PartRead r
  read_by (Ok First) e w z = (_, part_read a ((in_force_first a b).0 e).0)
  read_by (Ok Second) e w z = (_, part_read b ((in_force_second a b).0 e).0)
  read_by (Err n) e w z = cc

  pub part_reads : ((c : List Pair) × (read_cycle 512 (part_in_force a b) ≡ Ok c)) ↔ ((w : InForce) × (in_force a b ≡ Ok w))
  unfolding part_in_force
  part_reads = (told_by (in_force a b), λ t. read_by (in_force a b) refl t.0 t.1)

  -- a refusal leaves an empty part, and no other answer does: no bytes are read as a cycle
  empty_by : (r : Result InForce ℕ) → in_force a b ≡ r → part_of r a b ≡ [] → (n : ℕ) × (r ≡ Err n)
  empty_by (Ok w) e z = absurd (let p = read_by (Ok w) e w refl in let k = sym (no_count 512 [] (omega arith)).0 ∙ (rw z at p.1) in cc)
  empty_by (Err n) e z = (n, refl)

  none_by_number : (r : Result InForce ℕ) → ((n : ℕ) × (r ≡ Err n)) → part_of r a b ≡ []
  none_by_number (Ok w) n = cc
  none_by_number (Err m) n = refl

  pub part_empty : (part_in_force a b ≡ []) ↔ ((n : ℕ) × (in_force a b ≡ Err n))
  unfolding part_in_force
  part_empty = (empty_by (in_force a b) refl, none_by_number (in_force a b))

  bytes_by : (r : Result InForce ℕ) → AreBytes a → AreBytes b → AreBytes (part_of r a b)
  bytes_by (Ok First) small small' = part_bytes a small
  bytes_by (Ok Second) small small' = part_bytes b small'
  bytes_by (Err n) small small' = λ i. omega arith

  pub part_written : (c : List Pair) → AreBytes a → AreBytes b → read_cycle 512 (part_in_force a b) ≡ Ok c → cycle_bytes c ≡ part_in_force a b
  unfolding part_in_force
  part_written c small small' h = writes_back 512 (part_of (in_force a b) a b) c (bytes_by (in_force a b) small small') h

  -- ---- the order of the two

  -- what makes an answer be given makes it be given of the two the other way round, of the same file
  swapped_by : ¬ (a ≡ b) → Readable a ⊎ Readable b → Told a b → in_force b a ≡ swapped (in_force a b)
  swapped_by apart some (inl (r, inl cannot)) = rw (tells_first a b (r, inl cannot)) (tells_second b a (r, inl cannot))
  swapped_by apart some (inl (r, inr (inl h))) = rw (tells_first a b (r, inr (inl h))) (tells_second b a (r, inr h))
  swapped_by apart some (inl (r, inr (inr e))) = absurd (apart e)
  swapped_by apart some (inr (inl (q, inl cannot))) = rw (tells_second a b (q, inl cannot)) (tells_first b a (q, inl cannot))
  swapped_by apart some (inr (inl (q, inr h))) = rw (tells_second a b (q, inr h)) (tells_first b a (q, inr (inl h)))
  swapped_by apart some (inr (inr (n, inl (e, cannot)))) = absurd (⊎_elim (not_readable a e) cannot some)
  swapped_by apart some (inr (inr (n, inr (z, r, q, d, other)))) = rw (tells_number a b n (inr (z, r, q, d, other))) (tells_number b a n (inr (z, q, r, sym d, λ e. other (sym e))))

  pub either_order : ¬ (a ≡ b) → Readable a ⊎ Readable b → in_force b a ≡ swapped (in_force a b)
  either_order apart some = swapped_by apart some (told a b)

-- the part is the same: the same file's, or empty
module _ (a b : List ℕ) where
  other_way : (r : Result InForce ℕ) → part_of (swapped r) b a ≡ part_of r a b
  other_way (Ok First) = refl
  other_way (Ok Second) = refl
  other_way (Err n) = refl

  some_by : ¬ (a ≡ b) → Readable a ⊎ Readable b → part_in_force b a ≡ part_in_force a b
  unfolding part_in_force
  some_by apart some = ap (λ (r : Result InForce ℕ). part_of r b a) (either_order a b apart some) ∙ other_way (in_force a b)

  none_by : {n m : ℕ} → read_dated a ≡ Err n → read_dated b ≡ Err m → part_in_force b a ≡ part_in_force a b
  none_by e f =
      (part_empty b a).1 (_, tells_number b a _ (inl (f, not_readable a e)))
      ∙ sym ((part_empty a b).1 (_, tells_number a b _ (inl (e, not_readable b f))))

  part_by : (a ≡ b) ⊎ ¬ (a ≡ b) → Readable a ⊎ ((n : ℕ) × (read_dated a ≡ Err n)) → Readable b ⊎ ((n : ℕ) × (read_dated b ≡ Err n)) → part_in_force b a ≡ part_in_force a b
  part_by (inl e) x y = rw e
  part_by (inr apart) (inl r) y = some_by apart (inl r)
  part_by (inr apart) (inr e) (inl q) = some_by apart (inr q)
  part_by (inr apart) (inr e) (inr f) = none_by e.1 f.1

  pub same_part : part_in_force b a ≡ part_in_force a b
  same_part = part_by (same_or_not a b) (either a) (either b)
