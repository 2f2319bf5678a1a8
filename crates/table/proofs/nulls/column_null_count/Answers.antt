-- The null count in the bytes of a table: refused with it, or that of a column's place, if it has one.
use Rattle.std.proofs.Common.{rules, of_calls}
use Rattle.layout.proofs.AnswerLaws.{passed_on}
use Rattle.table.proofs.NullLaws.{nulls_refused, nulls_of}
use Rattle.table.proofs.nulls.column_null_count.Goals as goal

pub returns-in_err-t : goal.returns-in_err-t
returns-in_err-t c = rw (passed_on c.from_residual.result c.from_residual.ensures.1) (nulls_refused c.args.bytes.now c.args.column c.in_err-t.ensures)

pub returns : goal.returns
returns c = nulls_of c.args.bytes.now c.args.column c.in_ok-t.ensures c.column.ensures c.map.result (search (rules, of_calls))
