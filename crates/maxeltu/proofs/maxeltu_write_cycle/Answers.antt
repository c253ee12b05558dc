-- What is written is of the pairs that the words hold, and more than 512 are refused as none are.
use Rattle.writer.proofs.WriteAnswers.{told_stored, told_refused, fit_writes}
use Rattle.maxeltu.proofs.LocalWords.{unpacked}
use Rattle.maxeltu.proofs.maxeltu_write_cycle.Goals as goal

pub returns-in-Ok : goal.returns-in-Ok
returns-in-Ok c =
    let same = unpacked c.args.pairs.now _ _ c.unpack-used.ensures in
    let said = c.in-Ok.ensures in
    fit_writes c.args.pairs.now c.args.file.now c.args.written.now _ _ _ (rw (← same) (told_stored _ _ _ _ c.write.ensures.bytes _ said.number said.length))

pub returns-in-Err : goal.returns-in-Err
returns-in-Err c =
    let same = unpacked c.args.pairs.now _ _ c.unpack-used.ensures in
    fit_writes c.args.pairs.now c.args.file.now c.args.written.now _ _ _
    (rw (c.number.ensures, ← same) (told_refused _ _ _ _ c.write.ensures.bytes _ c.in-Err.ensures.number))
