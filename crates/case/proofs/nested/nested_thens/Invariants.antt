-- `nested_thens` goes THEN by THEN. The loop's invariant: the rows of the THENs before have right classes, the other rows have the classes that they had.
use Rattle.scalar.specs.Types.{type_number}
use Rattle.case.proofs.NestedLaws.{ClassedSoFar}
use Rattle.case.proofs.nested.nested_thens.Given as goal

abbrev pub invariant-loop-k : goal.invariant-loop-k
invariant-loop-k l = ClassedSoFar l.rule l.at l.table l.t (type_number l.res) l.count l.initial.work l.n l.initial.classes l.initial.results.kinds l.initial.results.payloads l.work l.classes l.results.kinds l.results.payloads l.used l.place l.k
