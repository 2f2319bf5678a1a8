-- `put_bit_field` puts a header and the bits behind it.
use Rattle.layout.specs.Bytes.{bitmap_length}
use Rattle.writer.specs.Slots.{slot_at}
use Rattle.writer.specs.Writing.{row_bytes, row_bits}
use Rattle.writer.proofs.RowBitLaws.{bits_size}
use Rattle.writer.proofs.ColumnPutLaws.{content_room, bit_field}
use Rattle.writer.proofs.write.put_bit_field.Goals as goal

pub returns : goal.returns
returns c = bit_field c.args.truth (slot_at c.args.rows.now.work.now) c.args.rows.now.count c.bitmap_length.ensures c.put_header-p.ensures c.put_bits.ensures

pub put_bits-requires : goal.put_bits-requires
put_bits-requires c = let v = slot_at c.args.rows.now.work.now in let n = bitmap_length c.args.rows.now.count in (content_room c.bitmap_length.result n (row_bytes (row_bits c.args.truth v c.args.rows.now.count) n) c.put_header-p.ensures (bits_size c.args.truth v c.args.rows.now.count n) c.requires)
