-- `write_row` writes the number, a space, the entry and LF.
use Rattle.layout.proofs.PutLaws.{wrote_then}
use Rattle.listing.proofs.line.write_row.Goals as goal

pub returns : goal.returns
returns c = wrote_then (wrote_then (wrote_then c.write_decimal-p.ensures c.write_byte-q.ensures) c.write_shown-e.ensures) c.write_byte.ensures
