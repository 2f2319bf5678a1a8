-- A column, part by part.
use Rattle.layout.proofs.AnswerLaws.{passed_on}
use mathlib.Core.Path.{refl}
use Rattle.table.proofs.ColumnLaws.{head_refused, type_refused, mark_refused, count_refused, validity_refuses, offsets_refuse, values_refuse, whole_column}
use Rattle.table.proofs.column.column_parts.Goals as goal

pub returns-in_err-head : goal.returns-in_err-head
returns-in_err-head c = rw (passed_on c.from_residual.result c.from_residual.ensures.1) (head_refused c.args.at c.args.rows c.in_err-head.ensures)

pub returns-in_err-data_type : goal.returns-in_err-data_type
returns-in_err-data_type c = rw (passed_on c.from_residual-in_err-data_type.result c.from_residual-in_err-data_type.ensures.1) (type_refused c.args.at c.args.rows c.in_ok-head.ensures c.byte_at.result _ c.byte_at.ensures refl c.in_err-data_type.ensures)

pub returns-in_err-nullable : goal.returns-in_err-nullable
returns-in_err-nullable c = rw (passed_on c.from_residual-in_err-nullable.result c.from_residual-in_err-nullable.ensures.1) (mark_refused c.args.at c.args.rows c.in_ok-head.ensures c.byte_at.result c.byte_at-2.result c.byte_at.ensures c.byte_at-2.ensures c.in_ok-data_type.ensures c.in_err-nullable.ensures)

pub returns-in_err-count : goal.returns-in_err-count
returns-in_err-count c = rw (passed_on c.from_residual-in_err-count.result c.from_residual-in_err-count.ensures.1) (count_refused c.args.at c.args.rows c.in_ok-head.ensures c.byte_at.result c.byte_at-2.result c.byte_at.ensures c.byte_at-2.ensures c.in_ok-data_type.ensures c.in_ok-nullable.ensures c.in_err-count.ensures)

pub returns-in_err-validity : goal.returns-in_err-validity
returns-in_err-validity c = rw (passed_on c.from_residual-in_err-validity.result c.from_residual-in_err-validity.ensures.1) (validity_refuses c.args.at c.args.rows c.in_ok-head.ensures c.byte_at.result c.byte_at-2.result c.byte_at.ensures c.byte_at-2.ensures c.in_ok-data_type.ensures c.in_ok-nullable.ensures c.in_ok-count.ensures c.in_err-validity.ensures)

pub returns-in_err-offsets : goal.returns-in_err-offsets
returns-in_err-offsets c = rw (passed_on c.from_residual-in_err-offsets.result c.from_residual-in_err-offsets.ensures.1) (offsets_refuse c.args.at c.args.rows c.in_ok-head.ensures c.byte_at.result c.byte_at-2.result c.byte_at.ensures c.byte_at-2.ensures c.in_ok-data_type.ensures c.in_ok-nullable.ensures c.in_ok-count.ensures c.in_ok-validity.ensures c.in_err-offsets.ensures)

pub returns-in_err-values : goal.returns-in_err-values
returns-in_err-values c = rw (passed_on c.from_residual-in_err-values.result c.from_residual-in_err-values.ensures.1) (values_refuse c.args.at c.args.rows c.in_ok-head.ensures c.byte_at.result c.byte_at-2.result c.byte_at.ensures c.byte_at-2.ensures c.in_ok-data_type.ensures c.in_ok-nullable.ensures c.in_ok-count.ensures c.in_ok-validity.ensures c.in_ok-offsets.ensures c.values_length-size.ensures c.in_err-values.ensures)

pub returns : goal.returns
returns c = whole_column c.args.at c.args.rows c.in_ok-head.ensures c.byte_at.result c.byte_at-2.result c.byte_at.ensures c.byte_at-2.ensures c.in_ok-data_type.ensures c.in_ok-nullable.ensures c.in_ok-count.ensures c.in_ok-validity.ensures c.in_ok-offsets.ensures c.values_length-size.ensures c.in_ok-values.ensures c.null_count.ensures.0
