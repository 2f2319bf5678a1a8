-- The column's numbers, and each row's index by the spans.
use Rattle.case.proofs.SpanLaws.{rows_spans, rows_of}
use Rattle.case.proofs.steps.index_column.Goals as goal

pub returns : goal.returns
returns c = λ tags keys spans. rows_of c.part_of-values.ensures c.part_of-validity.ensures (rows_spans spans c.column_keys.ensures c.requires.0 c.index_spans.ensures)
