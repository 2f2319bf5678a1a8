-- `put_column` puts the type, the validity behind room for the count, the count and the values.
use Rattle.writer.specs.Slots.{slot_at}
use Rattle.writer.proofs.ColumnPutLaws.{validity_ask, count_ask, values_ask, column_put}
use Rattle.writer.proofs.write.put_column.Goals as goal

pub put_validity-nulls-requires : goal.put_validity-nulls-requires
put_validity-nulls-requires c = (c.requires.2, validity_ask c.args.rows.now.rule.now c.args.rows.now.table.now (slot_at c.args.rows.now.work.now) c.args.rows.now.count c.args.t c.args.nullable c.args.null c.args.text c.requires.3 c.put_type-p.ensures)

pub put_count-q-requires : goal.put_count-q-requires
put_count-q-requires c = count_ask c.args.rows.now.rule.now c.args.rows.now.table.now (slot_at c.args.rows.now.work.now) c.args.rows.now.count c.args.t c.args.nullable c.args.null c.args.text c.requires.3 c.put_type-p.ensures c.put_validity-nulls.ensures c.args.rows.now.few

pub returns : goal.returns
returns c = column_put c.args.rows.now.rule.now c.args.rows.now.table.now (slot_at c.args.rows.now.work.now) c.args.rows.now.count c.args.t c.args.nullable c.args.null c.args.text c.requires.3 c.put_type-p.ensures c.put_validity-nulls.ensures c.put_count-q.ensures c.validity_size.ensures c.put_values.ensures

pub put_values-requires : goal.put_values-requires
put_values-requires c = (c.requires.0, c.requires.1, values_ask c.args.rows.now.rule.now c.args.rows.now.table.now (slot_at c.args.rows.now.work.now) c.args.rows.now.count c.args.t c.args.nullable c.args.null c.args.text c.requires.3 c.put_type-p.ensures c.put_validity-nulls.ensures c.put_count-q.ensures c.validity_size.ensures)
