use Rattle.std.proofs.Common.{rules}
use Rattle.case.proofs.RowsLaws.{filled_as}
use Rattle.case.proofs.rows.fill_value.Goals as goal

pub returns : goal.returns
returns c = filled_as c.fill_rows.ensures (λ r v e. search rules)
