-- `some_marked` finds a row that is marked. The loop's invariant: what is left decides.
use Rattle.builder.proofs.BuilderLaws.{NoneSoFar}
use Rattle.builder.proofs.some_marked.Given as goal

abbrev pub invariant-loop-row : goal.invariant-loop-row
invariant-loop-row l = NoneSoFar l.held l.rows l.row-index
