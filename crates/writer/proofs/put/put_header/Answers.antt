-- `put_header` stores the tag and the length behind it.
use Rattle.layout.proofs.PutLaws.{wrote_then}
use Rattle.writer.proofs.WroteLaws.{wrote_lowest}
use Rattle.writer.proofs.put.put_header.Goals as goal

pub returns : goal.returns
returns c = wrote_then c.put_byte-p.ensures (wrote_lowest 2 c.args.size c.to_le_bytes.ensures c.put_bytes.ensures)
