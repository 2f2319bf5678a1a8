-- `find_key` returns at the first key of the number. The loop's invariant: what is left gives the answer.
use Rattle.std.proofs.Common.{ℕ, eqb, get_or}
use Rattle.case.proofs.LookUpLaws.{Searching}
use Rattle.case.proofs.primitive_lookup_table.PrimitiveIndexMap.find_key.Given as goal

abbrev pub invariant-loop-k : goal.invariant-loop-k
invariant-loop-k l = Searching (λ (i : ℕ). eqb l.x (get_or l.self.numbers i 0)) (λ (i : ℕ). get_or l.self.indices i 0) l.self.size l.self.else_index l.k
