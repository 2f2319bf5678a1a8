-- `write_negative` writes the sign, then the decimal.
use Rattle.layout.proofs.PutLaws.{wrote_then}
use Rattle.listing.proofs.entry.write_negative.Goals as goal

pub returns : goal.returns
returns c = wrote_then c.write_byte-p.ensures c.write_decimal.ensures
