use Rattle.std.proofs.Common.{arith}
use Rattle.case.proofs.RowsLaws.{copied_all}
use Rattle.case.proofs.rows.copy_list.Goals as goal

pub returns : goal.returns
returns c = copied_all c.loop-i.invariant (omega arith)
