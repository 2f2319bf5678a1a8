use Rattle.case.proofs.RowsLaws.{all_more}
use Rattle.case.proofs.rows.all_rows.Goals as goal

pub loop-i-preserved : goal.loop-i-preserved
loop-i-preserved c = all_more c.loop-i.invariant c.requires c.loop-i-test.true c.put_row.ensures
