-- `class_listed` puts a class for each listed row. The loop's invariant: the first rows have theirs.
use Rattle.case.proofs.NestedLaws.{NumberedSoFar}
use Rattle.case.proofs.nested.class_listed.Given as goal

abbrev pub invariant-loop-i : goal.invariant-loop-i
invariant-loop-i l = NumberedSoFar l.work l.n l.values l.from l.initial.classes l.classes l.i
