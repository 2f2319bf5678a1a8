use Rattle.std.proofs.Common.{rules}
use Rattle.case.proofs.RowsLaws.{filled_as}
use Rattle.case.proofs.column.fill_texts.Goals as goal

pub returns : goal.returns
returns c = filled_as (λ r x e. search rules) c.fill_rows.ensures
