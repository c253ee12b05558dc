-- What is stored behind the bytes that are held is held behind them.
use Rattle.std.proofs.Common.{rules}
use Rattle.std.proofs.lemmas.Slice.{take-put_mid}
use Rattle.evenplan.proofs.TextWrite.write_str.Goals as goal

pub returns : goal.returns
returns c = search (rules, take-put_mid)
