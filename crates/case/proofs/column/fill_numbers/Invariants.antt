-- `fill_numbers` puts a column's entries in the slots of the listed rows. The loop's invariant: so far it is there.
use Rattle.case.proofs.RowsLaws.{FilledSoFar}
use Rattle.case.specs.ColumnSlots.{NumberRight}
use Rattle.case.proofs.column.fill_numbers.Given as goal

abbrev pub invariant-loop-i : goal.invariant-loop-i
invariant-loop-i l = FilledSoFar (NumberRight l.kind l.validity l.values) l.initial.work l.n l.i l.work
