-- The entry in a table: out of range, or that of the column's place.
use Rattle.table.proofs.EntryLaws.{no_column_lem, no_row_lem, has_entry}
use Rattle.table.proofs.entry.entry_at.Goals as goal

pub returns-in_default : goal.returns-in_default
returns-in_default c = no_column_lem c.args.bytes.now c.args.t c.args.column c.args.row c.in_default.ensures

pub returns-then-t-row : goal.returns-then-t-row
returns-then-t-row c = no_row_lem c.args.bytes.now c.args.t c.args.column c.args.row c.in-Some.ensures c.if-t-row.true

pub returns : goal.returns
returns c = has_entry c.args.bytes.now c.args.t c.args.column c.args.row c.in-Some.ensures c.if-t-row.false c.entry_in.result c.entry_in.ensures
