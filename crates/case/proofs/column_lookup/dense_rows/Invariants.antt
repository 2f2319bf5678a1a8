-- `dense_rows` gives each row its index. The loop's invariant: the first rows have theirs.
use Rattle.std.proofs.Common.{◌≡◌, ℕ}
use Rattle.case.specs.Steps.{RowsIndexed}
use Rattle.case.specs.LookUpColumns.{dense_row}
use Rattle.case.proofs.column_lookup.dense_rows.Given as goal

abbrev pub invariant-loop-i : goal.invariant-loop-i
invariant-loop-i l = RowsIndexed (λ (r c : ℕ). c ≡ dense_row l.validity l.column l.map.least l.map.answers l.map.else_index r) l.work 0 l.i l.values
