-- `find_number` returns at the first key of the kind and the payload. The loop's invariant: what is left gives the answer.
use Rattle.std.proofs.Common.{ℕ, ◌&&◌, eqb, get_or}
use Rattle.case.proofs.LookUpLaws.{Searching}
use Rattle.case.proofs.when_literal_index_map.WhenLiteralIndexMap.find_number.Given as goal

abbrev pub invariant-loop-k : goal.invariant-loop-k
invariant-loop-k l = Searching (λ (i : ℕ). eqb l.kind (get_or l.self.kinds i 0) && eqb l.payload (get_or l.self.keys i 0)) (λ (i : ℕ). get_or l.self.indices i 0) l.self.size l.self.else_index l.k
