-- `all_rows` puts each row at its own place. The loop's invariant: so far they are there, and nothing behind the list is changed.
use Rattle.case.proofs.RowsLaws.{AllRowsSoFar}
use Rattle.case.proofs.rows.all_rows.Given as goal

abbrev pub invariant-loop-i : goal.invariant-loop-i
invariant-loop-i l = AllRowsSoFar l.n l.i l.initial.work l.work
