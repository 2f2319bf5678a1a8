-- `put_number` puts the bytes of the number or of its low 32 bits.
use Prim.Native.Nat.{◌%◌}
use Rattle.layout.proofs.PutLaws.{wrote_as}
use Rattle.writer.proofs.WroteLaws.{wrote_lowest, low_bytes, width_bytes}
use Rattle.writer.proofs.put.put_number.Goals as goal

pub returns-then-wide : goal.returns-then-wide
returns-then-wide c = width_bytes c.if-wide.true c.args.n (wrote_lowest 8 c.args.n c.to_le_bytes.ensures c.put_bytes.ensures)

pub returns-else-wide : goal.returns-else-wide
returns-else-wide c = width_bytes c.if-wide.false c.args.n (wrote_as (low_bytes c.args.n) (wrote_lowest 4 (c.args.n % 4294967296) c.to_le_bytes-else-wide.ensures c.put_bytes-else-wide.ensures))
