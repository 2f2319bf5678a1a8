use Rattle.std.proofs.Common.{arith}
use Rattle.case.proofs.StepLaws.{indices_more}
use Rattle.case.proofs.column_lookup.dense_rows.Goals as goal

pub loop-i-preserved : goal.loop-i-preserved
loop-i-preserved c = indices_more (omega arith) c.loop-i.invariant c.requires.0 (omega arith) c.row_at-r.ensures c.dense_row.ensures
