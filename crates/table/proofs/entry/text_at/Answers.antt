-- A row's text between its two offsets.
use Rattle.table.proofs.EntryLaws.{text_behind, text_by_offsets}
use Rattle.table.proofs.entry.text_at.Goals as goal

pub returns-then-offsets-row : goal.returns-then-offsets-row
returns-then-offsets-row c = text_behind c.args.bytes.now c.args.place c.args.row c.part_of-offsets.result.now c.part_of-offsets.ensures c.if-offsets-row.true

pub returns : goal.returns
returns c = text_by_offsets c.args.bytes.now c.args.place c.args.row c.part_of-offsets.result.now c.part_of-offsets.ensures c.row_u32-from.result c.row_u32-to.result c.row_u32-from.ensures c.row_u32-to.ensures c.text_between.result c.text_between.ensures
