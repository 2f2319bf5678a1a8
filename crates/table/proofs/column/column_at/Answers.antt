-- A column, with its nulls and its null count looked at.
use Rattle.layout.proofs.AnswerLaws.{passed_on}
use Rattle.table.proofs.ColumnLaws.{column_room, column_left, column_ends, column_right}
use Rattle.table.proofs.column.column_at.Goals as goal

pub returns-in_err-column : goal.returns-in_err-column
returns-in_err-column c = rw (passed_on c.from_residual.result c.from_residual.ensures.1) (column_left c.args.bytes.now c.args.at c.args.rows c.in_err-column.ensures)

pub count_right-requires : goal.count_right-requires
count_right-requires c = column_room c.args.bytes.now c.args.at c.args.rows c.in_ok-column.ensures

pub returns-in_err-ended : goal.returns-in_err-ended
returns-in_err-ended c = rw (passed_on c.from_residual-in_err-ended.result c.from_residual-in_err-ended.ensures.1) (column_ends c.args.bytes.now c.args.at c.args.rows c.in_ok-column.ensures c.nulls_fit.result c.count_right.result c.nulls_fit.ensures c.count_right.ensures c.in_err-ended.ensures)

pub returns : goal.returns
returns c = column_right c.args.bytes.now c.args.at c.args.rows c.in_ok-column.ensures c.nulls_fit.result c.count_right.result c.nulls_fit.ensures c.count_right.ensures c.in_ok-ended.ensures
