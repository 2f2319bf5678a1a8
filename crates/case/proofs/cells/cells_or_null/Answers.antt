-- The table has the column that the node names, or the slots are null but where they failed.
use Rattle.case.proofs.CellLaws.{or_null_behind, or_null_none, or_null_some}
use Rattle.case.proofs.cells.cells_or_null.Goals as goal

pub returns-then-rule-at : goal.returns-then-rule-at
returns-then-rule-at c = or_null_behind c.args.table.now c.args.t c.if-rule-at.true c.fill_value.ensures

pub returns-in-None : goal.returns-in-None
returns-in-None c = or_null_none c.args.table.now c.args.t c.byte_at.ensures c.in-None.ensures c.choose_scalar.ensures

pub returns-in-Some : goal.returns-in-Some
returns-in-Some c = or_null_some c.args.table.now c.args.t c.byte_at.ensures c.in-Some.ensures c.column_or_null.ensures
