-- `try_new` reads key by key. The loop's invariant: the keys read go by their numbers, and have left their hints.
use Rattle.std.proofs.Common.{◌≡◌}
use Rattle.case.proofs.LookUpColumnLaws.{NumbersSoFar}
use Rattle.case.proofs.primitive_lookup_table.PrimitiveIndexMap.try_new.Given as goal

abbrev pub invariant-loop-k : goal.invariant-loop-k
invariant-loop-k l = NumbersSoFar l.whens.kinds l.whens.keys l.whens.size l.kind l.k l.map.0 l.map.1.1.0 × (l.map.1.0 ≡ l.whens.indices) × (l.map.1.1.1.0 ≡ l.whens.size) × (l.map.1.1.1.1.0 ≡ l.whens.else_index)
