-- `find_text` returns at the first key that is the text. The loop's invariant: what is left gives the answer.
use Rattle.std.proofs.Common.{ℕ, get_or}
use Rattle.scalar.specs.Entry.{entry, utf8}
use Rattle.scalar.specs.Value.{meaning}
use Rattle.case.specs.LookUpTables.{same_key, value_at}
use Rattle.case.proofs.LookUpLaws.{Searching}
use Rattle.case.proofs.when_literal_index_map.WhenLiteralIndexMap.find_text.Given as goal

abbrev pub invariant-loop-k : goal.invariant-loop-k
invariant-loop-k l = Searching (λ (i : ℕ). same_key (entry (utf8 l.text)) (meaning l.rule l.table (value_at l.self.kinds l.self.keys i))) (λ (i : ℕ). get_or l.self.indices i 0) l.self.size l.self.else_index l.k
