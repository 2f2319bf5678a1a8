-- `number_rows` gives each row its index. The loop's invariant: the first rows have theirs.
use Rattle.case.specs.Steps.{RowsIndexed}
use Rattle.case.specs.LookUpColumns.{NumberRow}
use Rattle.case.proofs.column_lookup.number_rows.Given as goal

abbrev pub invariant-loop-i : goal.invariant-loop-i
invariant-loop-i l = RowsIndexed (NumberRow l.validity l.column l.map.numbers l.map.indices l.map.size l.map.else_index) l.work 0 l.i l.values
