-- The entry in the bytes of a table: refused with it, or that of its places.
use Rattle.std.proofs.lemmas.Result.{err_from_is_err_and}
use Rattle.table.proofs.EntryLaws.{table_no, table_yes}
use Rattle.table.proofs.entry.entry.Goals as goal

pub returns-in_err-t : goal.returns-in_err-t
returns-in_err-t c = let p = err_from_is_err_and c.from_residual.result c.from_residual.ensures.1 in rw (p.1, p.2) (table_no c.args.bytes.now c.args.column c.args.row c.in_err-t.ensures)

pub returns : goal.returns
returns c = table_yes c.args.bytes.now c.args.column c.args.row c.in_ok-t.ensures c.entry_at.result c.entry_at.ensures
