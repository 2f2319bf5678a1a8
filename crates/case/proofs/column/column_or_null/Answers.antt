use Rattle.std.proofs.Common.{rules}
use Rattle.case.proofs.RowsLaws.{filled_as}
use Rattle.case.proofs.column.column_or_null.Goals as goal

pub returns : goal.returns
returns c = filled_as c.map_rows.ensures (λ r v e. search rules)
