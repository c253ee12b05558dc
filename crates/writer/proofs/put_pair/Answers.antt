-- The map byte and the fields are stored one behind the other (`pair_stored`). Assumes nothing.
use native.Mathlib.Omega.{arith}
use lib.ListN.{length-set}
use lib.Seq.{length-sets}
use Rattle.cyclefile.proofs.Fields.{length_pair_bytes}
use Rattle.writer.proofs.StoredBytes.{pair_stored}
use Rattle.writer.proofs.put_pair.Goals as goal

pub put_field-next-requires : goal.put_field-next-requires
put_field-next-requires c = rw (length-set, c.gap_stands-gap.ensures) (omega (arith, length_pair_bytes c.args.before c.args.pair, c.requires))

pub put_field-requires : goal.put_field-requires
put_field-requires c =
    rw (c.put_field-next.ensures.stored, length-sets, length-set, c.put_field-next.ensures.end, c.size_stands-size.ensures, c.gap_stands-gap.ensures) (omega (arith, length_pair_bytes c.args.before c.args.pair, c.requires))

pub returns-clause-stored : goal.returns-clause-stored
returns-clause-stored c =
    rw (c.put_field.ensures.stored, c.put_field-next.ensures.stored, c.put_field-next.ensures.end, c.map_byte.ensures, c.size_stands-size.ensures, c.gap_stands-gap.ensures) (pair_stored c.args.before c.args.pair c.args.file.now c.args.at)
