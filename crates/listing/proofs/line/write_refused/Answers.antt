-- `write_refused` writes the word, the number and LF.
use Rattle.layout.proofs.PutLaws.{wrote_then}
use Rattle.listing.proofs.line.write_refused.Goals as goal

pub returns : goal.returns
returns c = wrote_then (wrote_then c.write_bytes-p.ensures c.write_decimal-q.ensures) c.write_byte.ensures
