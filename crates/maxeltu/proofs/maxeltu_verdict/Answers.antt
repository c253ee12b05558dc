-- The verdict goes by what the two files are read to, as its definition does. Of the words that are lent to the reader, those in front hold the
-- pairs that the cycle's file reads as, and they are checked.
use Prim.Native.Nat.{ℕ, ◌*◌}
use native.Mathlib.Omega.{arith}
use mathlib.Core.Path.{◌≡◌, sym, ◌∙◌}
use lib.ListN.{take, replicate, length-replicate}
use lib.Seq.{length-take-le}
use Rattle.std.specs.Prelude.{Ok}
use Rattle.cyclefile.proofs.ReadWords.{FrontPairs, within, words_read, words_refused}
use Rattle.maxeltu.proofs.VerdictCases.{file_refused, both_read}
use Rattle.maxeltu.proofs.maxeltu_verdict.Goals.{After-read}
use Rattle.maxeltu.proofs.maxeltu_verdict.Goals as goal

-- the pairs in front of the words, once the cycle's file is read
front : (r : After-read) {n : ℕ} → r.read.result ≡ Ok n → FrontPairs 512 r.args.cycle_bytes.now r.read.new.words n
front r e = words_read 512 _ (replicate 1024 0) (length-replicate {A = ℕ} 1024 0) (rw e at r.read.ensures.answer) r.read.ensures.stored

pub overflow_mul-words : goal.overflow_mul-words
overflow_mul-words c = let f = front (goal.at.overflow_mul-words c).After-read c.in-Ok-read.is in omega (arith, f.most)

pub slice_bounds-words-end : goal.slice_bounds-words-end
slice_bounds-words-end c = within (front (goal.at.slice_bounds-words-end c).After-read c.in-Ok-read.is)

pub slice_bounds-check-end : goal.slice_bounds-check-end
slice_bounds-check-end c = sym (length-take-le _ _ (within (front (goal.at.slice_bounds-check-end c).After-read c.in-Ok-read.is)))

pub returns-in-Ok-read : goal.returns-in-Ok-read
returns-in-Ok-read c =
    let f = front (goal.at.returns-in-Ok-read c).After-read c.in-Ok-read.is in
    c.answer_number-in-Ok-read.ensures ∙ both_read _ _ c.in-Ok.ensures (take (2 * c.in-Ok-read.count) c.read.new.words) f.ps f.reads f.front c.check.ensures

pub returns-in-Err : goal.returns-in-Err
returns-in-Err c =
    c.number.ensures ∙ file_refused _ _ c.in-Ok.ensures (words_refused 512 _ (replicate 1024 0) (length-replicate {A = ℕ} 1024 0) c.in-Err.ensures.answer)
