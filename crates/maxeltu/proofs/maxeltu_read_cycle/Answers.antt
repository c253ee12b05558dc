-- As many words are used as the file's pairs take, and packing those leaves the list and the count as `Reads` says.
use Prim.Native.Nat.{ℕ}
use native.Mathlib.Omega.{arith}
use mathlib.Core.Path.{◌≡◌, refl, sym}
use lib.ListN.{length, replicate, length-replicate}
use lib.Seq.{length-take-le}
use Rattle.std.specs.Prelude.{Ok}
use Rattle.std.proofs.Common.{rules}
use Rattle.cyclefile.proofs.ReadWords.{FrontPairs, within, words_read, words_refused}
use Rattle.maxeltu.proofs.ListReadings.{packed_read}
use Rattle.maxeltu.proofs.maxeltu_read_cycle.Goals.{After-read}
use Rattle.maxeltu.proofs.maxeltu_read_cycle.Goals as goal

-- the pairs in front of the words, once the file is read
front : (r : After-read) {n : ℕ} → r.read.result ≡ Ok n → FrontPairs (length r.args.places.now) r.args.file.now r.read.new.words n
front r e = words_read (length r.args.places.now) _ (replicate 1024 0) (length-replicate {A = ℕ} 1024 0) (rw e at r.read.ensures.answer) r.read.ensures.stored

pub overflow_mul-words : goal.overflow_mul-words
overflow_mul-words c = let f = front (goal.at.overflow_mul-words c).After-read c.in-Ok.is in omega (arith, f.most)

pub slice_bounds-words-end : goal.slice_bounds-words-end
slice_bounds-words-end c = within (front (goal.at.slice_bounds-words-end c).After-read c.in-Ok.is)

pub slice_bounds-pack-end : goal.slice_bounds-pack-end
slice_bounds-pack-end c = sym (length-take-le _ _ (within (front (goal.at.slice_bounds-pack-end c).After-read c.in-Ok.is)))

pub overflow_cast-count : goal.overflow_cast-count
overflow_cast-count c = let f = front (goal.at.overflow_cast-count c).After-read c.in-Ok.is in omega (arith, f.most)

pub returns-in-Ok : goal.returns-in-Ok
returns-in-Ok c = packed_read c.args.file.now c.args.places.now _ c.args.count.now (front (goal.at.returns-in-Ok c).After-read c.in-Ok.is) c.pack.ensures

pub returns-in-Err : goal.returns-in-Err
returns-in-Err c =
    rw (words_refused (length c.args.places.now) _ (replicate 1024 0) (length-replicate {A = ℕ} 1024 0) c.in-Err.ensures.answer) (c.number.ensures, search rules, refl)
