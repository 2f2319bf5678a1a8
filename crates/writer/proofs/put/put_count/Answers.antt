-- `put_count` puts a header and the number behind it.
use mathlib.Core.Path.{sym, ap}
use lib.ListN.{length}
use native.Mathlib.Omega.{arith}
use Rattle.layout.proofs.BytesLaws.{length_number_bytes}
use Rattle.writer.proofs.WroteLaws.{wrote_field, wrote_lowest, header_room}
use Rattle.writer.proofs.put.put_count.Goals as goal

pub put_bytes-requires : goal.put_bytes-requires
put_bytes-requires c = omega (arith, header_room 2 c.put_header-p.ensures 2 (omega (arith, c.requires.0)), ap length c.to_le_bytes.ensures)

pub returns : goal.returns
returns c = wrote_field (sym (length_number_bytes 2 c.args.nulls)) c.put_header-p.ensures (wrote_lowest 2 c.args.nulls c.to_le_bytes.ensures c.put_bytes.ensures)
