-- `text_rows` gives each row its index. The loop's invariant: the first rows have theirs.
use Rattle.case.specs.Steps.{RowsIndexed}
use Rattle.case.specs.LookUpColumns.{TextRow}
use Rattle.case.proofs.column_lookup.text_rows.Given as goal

abbrev pub invariant-loop-i : goal.invariant-loop-i
invariant-loop-i l = RowsIndexed (TextRow l.map.rule.now l.map.table.now l.validity l.offsets l.texts l.map.whens.now.kinds l.map.whens.now.keys l.map.whens.now.indices l.map.whens.now.size l.map.whens.now.else_index) l.work 0 l.i l.values
