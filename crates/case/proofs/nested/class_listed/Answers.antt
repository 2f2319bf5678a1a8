use Rattle.std.proofs.Common.{arith}
use Rattle.case.proofs.NestedLaws.{numbered_next}
use Rattle.case.proofs.nested.class_listed.Goals as goal

pub loop-i-preserved : goal.loop-i-preserved
loop-i-preserved c = numbered_next c.loop-i.invariant (omega arith) c.requires.rows.0 c.loop-i-test.true c.row_at-r.ensures
