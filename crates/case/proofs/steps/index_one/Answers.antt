use Rattle.std.proofs.Common.{arith}
use Rattle.case.proofs.StepLaws.{indices_more}
use Rattle.case.proofs.steps.index_one.Goals as goal

pub loop-i-preserved : goal.loop-i-preserved
loop-i-preserved c = indices_more (omega arith) c.loop-i.invariant c.requires.0 c.loop-i-test.true c.row_at-r.ensures c.one_row.ensures
