-- `write_types` writes the two words, each with its digit, and LF.
use Rattle.layout.proofs.PutLaws.{wrote_then, wrote_byte}
use Rattle.listing.proofs.line.write_types.Goals as goal

pub returns : goal.returns
returns c =
    wrote_then (wrote_then (wrote_then (wrote_then c.write_bytes-p.ensures (wrote_byte c.digit.ensures c.write_byte-q.ensures)) c.write_bytes-e.ensures) (wrote_byte c.digit-2.ensures c.write_byte-f.ensures)) c.write_byte.ensures
