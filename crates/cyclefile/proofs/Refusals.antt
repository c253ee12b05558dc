-- Whatever the bytes are, reading them gives pairs or one of its numbers: 12, 17 to 21; with 512 places never 20. Each comes from one test: those of a
-- pair (`stopped_number`), that of bytes behind the last pair, and those of the count. Assumes nothing.
use mathlib.Core.Path.{◌≡◌, sym, ◌∙◌}
use Prim.Native.Nat.{ℕ, zero, suc, ◌≤◌, ◌<◌}
use native.Mathlib.Omega.{arith}
use mathlib.Core.Logic.{◌⊎◌, inl, inr}
use mathlib.Core.List.{List}
use lib.ListN.{drop}
use Rattle.std.specs.Prelude.{Option, None, Some, Err}
use Rattle.spec.specs.File.{word}
use Rattle.pairs.specs.declared.Pair.{Pair}
use Rattle.pairs.proofs.Counts.{count_in_true}
use Rattle.cyclefile.specs.File.{read_pairs, read_cycle}
use Rattle.cyclefile.proofs.OnePair.{stopped_number}
use Rattle.cyclefile.proofs.PairByPair.{first, later, refused_at, refused_left}
use Rattle.cyclefile.proofs.WholeFile.{Beginning, cut, miscounted, crowded, begun, begins, no_count, bad_count, few_places, pair_by_pair}

abbrev pub CycleRefusal : ℕ → Type 0
CycleRefusal n = (n ≡ 12) ⊎ ((17 ≤ n) × (n ≤ 21))

-- those of the pairs, and 21; 20 is of the count alone
abbrev PairsRefusal : ℕ → Type 0
PairsRefusal n = ((17 ≤ n) × (n ≤ 19)) ⊎ (n ≡ 21)

pairs_number : (k : ℕ) (before : Option Pair) (b : List ℕ) (n : ℕ) → read_pairs k before b ≡ Err n → PairsRefusal n
pairs_number zero before b n h = inr (refused_left before b n h).1
pairs_number (suc k) before b n h =
    elim (refused_at before b k n h) [
      | first e ↦ inl (stopped_number before b n e)
      | later p taken e rest ↦ pairs_number k (Some p) (drop taken b) n rest
    ]

-- 20 tells that there are fewer places than pairs, of which there are 512 at most
abbrev Numbered : ℕ → ℕ → Type 0
Numbered places n = (n ≡ 12) ⊎ (((n ≡ 20) × (places < 512)) ⊎ PairsRefusal n)

number_by : (places : ℕ) (file : List ℕ) (n : ℕ) → read_cycle places file ≡ Err n → Beginning places file → Numbered places n
number_by places file n h (cut short) = inr (inr (inl (let k = (no_count places file short).0 in let z : 18 ≡ n = cc in (omega arith, omega arith))))
number_by places file n h (miscounted long wrong) = inl (let k = (bad_count places file long wrong).0 in let z : 12 ≡ n = cc in sym z)
number_by places file n h (crowded long right few) = inr (inl (let k = (few_places places file long right few).0 in let z : 20 ≡ n = cc in (sym z, omega (arith, few, (count_in_true (word file 0) right).1))))
number_by places file n h (begun long right room) = inr (inr (pairs_number (word file 0) None (drop 2 file) n (sym (pair_by_pair places file long right room).0 ∙ h)))

numbered_within : (places n : ℕ) → Numbered places n → CycleRefusal n
numbered_within places n (inl e) = inl e
numbered_within places n (inr (inl e)) = inr (omega (arith, e.0), omega (arith, e.0))
numbered_within places n (inr (inr (inl e))) = inr (e.0, omega (arith, e.1))
numbered_within places n (inr (inr (inr e))) = inr (omega arith, omega arith)

pub cycle_numbered : (places : ℕ) (file : List ℕ) (n : ℕ) → read_cycle places file ≡ Err n → CycleRefusal n
cycle_numbered places file n h = numbered_within places n (number_by places file n h (begins places file))

-- what a file can get where there are 512 places: never 20
abbrev pub RefusalWithRoom : ℕ → Type 0
RefusalWithRoom n = (n ≡ 12) ⊎ PairsRefusal n

with_room : (n : ℕ) → Numbered 512 n → RefusalWithRoom n
with_room n (inl e) = inl e
with_room n (inr (inl e)) = absurd (omega (arith, e.1))
with_room n (inr (inr r)) = inr r

pub numbered_with_room : (file : List ℕ) (n : ℕ) → read_cycle 512 file ≡ Err n → RefusalWithRoom n
numbered_with_room file n h = with_room n (number_by 512 file n h (begins 512 file))
