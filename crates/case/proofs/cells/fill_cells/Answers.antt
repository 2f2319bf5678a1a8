-- The table has the column, or the slots are null.
use Rattle.case.proofs.CellLaws.{cells_none, cells_some}
use Rattle.case.proofs.cells.fill_cells.Goals as goal

pub returns-in-None : goal.returns-in-None
returns-in-None c = cells_none c.args.table.now c.args.t c.args.column c.in-None.ensures c.fill_value.ensures

pub returns-in-Some : goal.returns-in-Some
returns-in-Some c = cells_some c.args.table.now c.args.t c.args.column c.in-Some.ensures c.fill_column.ensures
