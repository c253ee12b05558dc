-- Reading into a lent list: packing the words that a file was read into leaves the list and the count as the call promises. Assumes nothing.
use Prim.Native.Nat.{ℕ, ◌*◌}
use mathlib.Core.Path.{refl, sym}
use mathlib.Core.List.{List}
use lib.ListN.{length, take}
use Rattle.pairs.specs.declared.Pair.{Pair}
use Rattle.pairs.proofs.Counts.{all_fit}
use Rattle.pairs.proofs.FlatLists.{pairs_of_flatten}
use Rattle.pairs.proofs.Packed.{Packs}
use Rattle.cyclefile.specs.File.{read_cycle, Reads}
use Rattle.cyclefile.proofs.ReadWords.{FrontPairs}
use Rattle.cyclefile.proofs.RoundTrip.{reads_cycles}

pub packed_read : (file : List ℕ) (ys zs : List Pair) (old : ℕ) {words : List ℕ} {n : ℕ} → FrontPairs (length ys) file words n → Packs (take (2 * n) words) ys zs
    → Reads (read_cycle (length ys) file) ys old 0 zs n
packed_read file ys zs old f packs =
    let room = (reads_cycles (length ys) file f.ps f.reads).2 in
    rw f.reads (refl, rw (f.front, pairs_of_flatten f.ps, all_fit (length ys) f.ps room) at packs, sym f.long)
