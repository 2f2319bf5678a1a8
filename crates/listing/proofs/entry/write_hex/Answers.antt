-- `write_hex` writes `t`, then the text.
use Rattle.layout.proofs.PutLaws.{wrote_then}
use Rattle.listing.proofs.entry.write_hex.Goals as goal

pub returns : goal.returns
returns c = wrote_then c.write_byte-p.ensures c.write_text.ensures
