-- `dense` puts the keys' indices. The loop's invariant: those of the first keys are there, and ELSE's anywhere else.
use Rattle.case.proofs.DenseLaws.{DenseSoFar}
use Rattle.case.proofs.primitive_lookup_table.PrimitiveIndexMap.dense.Given as goal

abbrev pub invariant-loop-key : goal.invariant-loop-key
invariant-loop-key l = DenseSoFar l.self.numbers l.self.indices l.self.size l.self.else_index l.least l.key l.answers
