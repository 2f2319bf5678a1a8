-- The hints and the marks are read, and each row has its index.
use Rattle.case.proofs.LookUpColumnLaws.{texts_keyed, texts_alike}
use Rattle.case.proofs.column_lookup.text_column.Goals as goal

pub returns : goal.returns
returns c = texts_keyed {table = c.args.table.now} {place = c.args.place} c.requires.rows.2 c.part_of-validity.ensures c.part_of-offsets.ensures c.part_of-texts.ensures (texts_alike c.new-map.ensures.0 c.new-map.ensures.1 c.new-map.ensures.2 c.text_rows.ensures)
