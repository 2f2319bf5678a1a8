-- `map_rows` puts the literal at the index of each row's base in the row's slot. The loop's invariant: so far it is there.
use Rattle.case.specs.LookUpTables.{key_index, MappedBy}
use Rattle.case.proofs.RowsLaws.{FilledSoFar}
use Rattle.case.proofs.literal_lookup_table.LiteralLookupTable.map_rows.Given as goal

abbrev pub invariant-loop-i : goal.invariant-loop-i
invariant-loop-i l = FilledSoFar (MappedBy l.rule l.table l.self.literals.kinds l.self.literals.payloads (key_index l.rule l.table l.self.whens.kinds l.self.whens.keys l.self.whens.indices l.self.whens.size l.self.whens.else_index) l.self.whens.else_index l.initial.work) l.initial.work l.n l.i l.work
