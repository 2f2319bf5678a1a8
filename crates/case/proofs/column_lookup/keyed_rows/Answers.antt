-- By a dense table, or by the hints.
use Rattle.case.proofs.DenseLaws.{rows_dense}
use Rattle.case.proofs.column_lookup.keyed_rows.Goals as goal

pub returns-in-Some : goal.returns-in-Some
returns-in-Some c = rows_dense c.in-Some.ensures.0 c.in-Some.ensures.1 c.dense_rows.ensures
