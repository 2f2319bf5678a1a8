-- `fill_column` goes by the column's type.
use Rattle.std.proofs.Common.{rules}
use Rattle.case.proofs.ColumnSlotLaws.{column_filled, texts_filled}
use Rattle.case.proofs.column.fill_column.Goals as goal

pub returns-in-Utf8 : goal.returns-in-Utf8
returns-in-Utf8 c = texts_filled c.args.table.now c.args.place c.part_of-validity.result.now c.part_of-offsets.result.now c.part_of-validity.ensures c.part_of-offsets.ensures c.in-Utf8.is c.fill_texts.ensures

pub returns-in_default : goal.returns-in_default
returns-in_default c = column_filled c.args.table.now c.args.place c.part_of-validity.result.now c.part_of-values.result.now c.part_of-validity.ensures c.part_of-values.ensures (search rules) c.fill_numbers.ensures
