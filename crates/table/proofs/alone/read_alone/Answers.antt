-- One column alone: its rows, its parts, its null count and what stands behind it.
use mathlib.Core.Path.{sym, ◌∙◌}
use Rattle.layout.proofs.AnswerLaws.{passed_on}
use Rattle.table.proofs.ColumnLaws.{column_room}
use Rattle.table.proofs.AloneLaws.{alone_rows, alone_cut, alone_miscounted, alone_over, alone_whole}
use Rattle.table.proofs.alone.read_alone.Goals as goal

pub returns-then-rows-gt-ROWS_MOST : goal.returns-then-rows-gt-ROWS_MOST
returns-then-rows-gt-ROWS_MOST c = alone_rows c.args.bytes.now c.args.rows c.if-rows-gt-ROWS_MOST.true

pub returns-in_err-column : goal.returns-in_err-column
returns-in_err-column c = rw (passed_on c.from_residual.result c.from_residual.ensures.1) (alone_cut c.args.bytes.now c.args.rows c.if-rows-gt-ROWS_MOST.false c.in_err-column.ensures)

pub count_right-requires : goal.count_right-requires
count_right-requires c = column_room c.args.bytes.now 0 c.args.rows c.in_ok-column.ensures

pub returns-then-not-count_right : goal.returns-then-not-count_right
returns-then-not-count_right c = alone_miscounted c.args.bytes.now c.args.rows c.if-rows-gt-ROWS_MOST.false c.in_ok-column.ensures (sym c.count_right.ensures ∙ c.if-not-count_right.true)

pub returns-then-column-bytes : goal.returns-then-column-bytes
returns-then-column-bytes c = alone_over c.args.bytes.now c.args.rows c.if-rows-gt-ROWS_MOST.false c.in_ok-column.ensures (sym c.count_right.ensures ∙ c.if-not-count_right.false) c.if-column-bytes.true

pub returns : goal.returns
returns c = alone_whole c.args.bytes.now c.args.rows c.if-rows-gt-ROWS_MOST.false c.in_ok-column.ensures (sym c.count_right.ensures ∙ c.if-not-count_right.false) c.if-column-bytes.false
