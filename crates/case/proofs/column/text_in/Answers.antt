-- `text_in` goes by the validity.
use Rattle.layout.specs.Bytes.{part}
use Rattle.table.proofs.EntryLaws.{text_between_gives}
use Rattle.case.proofs.ColumnSlotLaws.{text_valid}
use Rattle.case.proofs.column.text_in.Goals as goal

pub returns-then-valid_at : goal.returns-then-valid_at
returns-then-valid_at c = text_valid c.args.table.now c.args.validity.now c.args.offsets.now (part c.args.table.now c.args.start c.args.end) c.args.row c.valid_at.ensures c.row_u32-from.result c.row_u32-to.result c.text_between.result c.if-valid_at.true c.row_u32-from.ensures c.row_u32-to.ensures (text_between_gives c.args.table.now c.args.start c.args.end c.row_u32-from.result c.row_u32-to.result c.text_between.ensures)
