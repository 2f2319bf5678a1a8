-- `put_type` puts a header and two bytes behind it.
use native.Mathlib.Omega.{arith}
use Rattle.layout.specs.Bytes.{number_bytes}
use Rattle.layout.specs.Field.{field_bytes}
use Rattle.layout.proofs.PutLaws.{wrote_then, wrote_long, wrote_byte}
use Rattle.std.proofs.Common.{◌∙◌}
use Rattle.scalar.proofs.TypeLaws.{boolean_mark}
use Rattle.writer.proofs.WroteLaws.{header_room}
use Rattle.writer.proofs.put.put_type.Goals as goal

pub put_byte-q-requires : goal.put_byte-q-requires
put_byte-q-requires c = header_room 2 c.put_header-p.ensures 1 (omega arith)

pub put_byte-requires : goal.put_byte-requires
put_byte-requires c = omega (arith, header_room 2 c.put_header-p.ensures 2 (omega arith), c.put_byte-q.ensures.ends, wrote_long c.put_byte-q.ensures)

pub returns : goal.returns
unfolding field_bytes number_bytes
returns c = wrote_then (wrote_then c.put_header-p.ensures (wrote_byte c.number.ensures c.put_byte-q.ensures)) (wrote_byte (c.from.ensures ∙ boolean_mark c.args.nullable) c.put_byte.ensures)
