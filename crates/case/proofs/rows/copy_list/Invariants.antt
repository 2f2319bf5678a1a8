-- `copy_list` copies a list byte by byte. The loop's invariant: so far the bytes are the same, and those before are unchanged.
use Rattle.case.proofs.RowsLaws.{CopiedSoFar}
use Rattle.case.proofs.rows.copy_list.Given as goal

abbrev pub invariant-loop-i : goal.invariant-loop-i
invariant-loop-i l = CopiedSoFar l.initial.work l.n l.from l.to l.i l.work
