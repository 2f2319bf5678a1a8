-- `rows_of_kind` looks at the slots from the first on. The loop's invariant: so far they are of the kind.
use Rattle.writer.proofs.PlainLaws.{AllSoFar}
use Rattle.writer.proofs.plain.rows_of_kind.Given as goal

abbrev pub invariant-loop-i : goal.invariant-loop-i
invariant-loop-i l = AllSoFar l.rows.work.now l.k l.rows.count l.i
