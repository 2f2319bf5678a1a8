-- `put_validity` puts the bits of validity, or an empty field; rows whose bit is not set are null.
use native.Mathlib.Omega.{arith}
use mathlib.Core.Bool.{false}
use Rattle.writer.specs.Slots.{slot_at}
use Rattle.writer.specs.Writing.{flag_of}
use Rattle.writer.proofs.RowCountLaws.{count_le}
use Rattle.writer.proofs.ColumnPutLaws.{validity_some, validity_none}
use Rattle.writer.proofs.write.put_validity.Goals as goal

pub overflow_sub-result : goal.overflow_sub-result
overflow_sub-result c = omega (arith, c.put_bit_field.ensures.counted, count_le (λ i. flag_of false (slot_at c.args.rows.now.work.now i)) c.args.rows.now.count)

pub returns-then-null : goal.returns-then-null
returns-then-null c = validity_some c.args.null (slot_at c.args.rows.now.work.now) c.args.rows.now.count c.if-null.true c.put_bit_field.ensures

pub returns : goal.returns
returns c = validity_none c.args.null (slot_at c.args.rows.now.work.now) c.args.rows.now.count c.if-null.false c.requires.0 c.put_header-end.ensures
