-- The numbers of the keys and of the column are read, and each row has its index; or no row has one.
use Rattle.case.proofs.LookUpColumnLaws.{numbers_keyed, numbers_alike}
use Rattle.case.proofs.column_lookup.number_column.Goals as goal

pub returns : goal.returns
returns c = numbers_keyed {table = c.args.table.now} {place = c.args.place} c.number.ensures c.requires.rows.3 c.requires.rows.0 c.in-Some.ensures.0 c.part_of-entries.ensures c.column_keys.ensures c.part_of-validity.ensures (numbers_alike c.in-Some.ensures.1 c.in-Some.ensures.2 c.in-Some.ensures.3 c.keyed_rows.ensures)
