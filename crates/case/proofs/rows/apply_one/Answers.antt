-- `apply_one` hands each operation that is no cast on to its own function.
use Rattle.scalar.proofs.OperationLaws.{negative_gives}
use Rattle.case.proofs.RowsLaws.{operation_gives}
use Rattle.case.proofs.rows.apply_one.Goals as goal

pub returns-in-Negative : goal.returns-in-Negative
returns-in-Negative c = operation_gives c.in-Negative.is (negative_gives _ c.negative.ensures.0 c.negative.ensures.1)
