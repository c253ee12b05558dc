-- Each `return` is a case of `WriteAnswers`. Assumes nothing.
use mathlib.Core.Path.{◌≡◌, sym, ◌∙◌}
use native.Mathlib.Omega.{arith}
use mathlib.Core.Bool.{true}
use Rattle.std.proofs.Common.{rules}
use lib.ListN.{length}
use Rattle.pairs.specs.Pairs.{count_in, pairs_of}
use Rattle.pairs.proofs.FlatLists.{length_pairs_of}
use Rattle.pairs.proofs.Counts.{count_in_true}
use Rattle.cyclefile.proofs.Fields.{length_cycle_bytes}
use Rattle.writer.proofs.WriteAnswers.{bad_count, few_bytes, stored_whole, file_small}
use Rattle.writer.proofs.write.Goals.{Else-not-count_in}
use Rattle.writer.proofs.write.Goals as goal

-- from the test on the count is in range
counted : (e : Else-not-count_in) → count_in (length (pairs_of e.args.words.now)) ≡ true
counted e = rw length_pairs_of (sym e.count_in.ensures ∙ e.if-not-count_in.false)

pub returns-then-not-count_in : goal.returns-then-not-count_in
returns-then-not-count_in c =
    let k = bad_count (pairs_of c.args.words.now) c.args.file.now (rw length_pairs_of (sym c.count_in.ensures ∙ c.if-not-count_in.true)) in
    record { number = k.0; length = search rules; most = search rules; bytes = k.1 }

pub returns-then-file-length : goal.returns-then-file-length
returns-then-file-length c =
    let k = few_bytes (pairs_of c.args.words.now) c.args.file.now (counted (goal.at.returns-then-file-length c).Else-not-count_in) (rw (← c.file_length-length.ensures) c.if-file-length.true) in
    record { number = k.0; length = search rules; most = search rules; bytes = k.1 }

pub put_number-requires : goal.put_number-requires
put_number-requires c = omega (arith, c.if-file-length.false, c.file_length-length.ensures, length_cycle_bytes (pairs_of c.args.words.now))

pub returns : goal.returns
returns c =
    let ps = pairs_of c.args.words.now in
    let is_counted = counted (goal.at.returns c).Else-not-count_in in
    let k = stored_whole ps c.args.file.now is_counted (rw (← c.file_length-length.ensures) c.if-file-length.false) in
    record {
      number = k.0;
      length = c.file_length-length.ensures;
      most = rw c.file_length-length.ensures (file_small ps (count_in_true (length ps) is_counted).1);
      bytes = rw (c.put_pairs.ensures, c.put_number.ensures, ← length_pairs_of c.args.words.now) k.1;
    }
