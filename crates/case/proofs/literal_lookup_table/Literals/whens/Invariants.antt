-- `whens` adds the WHENs in order. The loop's invariant: every base has the index in the map that it has among the WHENs so far.
use Rattle.std.proofs.Common.{◌≡◌, ◌*◌}
use Rattle.case.specs.LookUpTables.{TableOf}
use Rattle.case.proofs.literal_lookup_table.Literals.whens.Given as goal

abbrev pub invariant-loop-when : goal.invariant-loop-when
invariant-loop-when l = TableOf l.rule l.table l.self.kinds l.self.payloads l.when (2 * l.count) l.map.kinds l.map.keys l.map.indices l.map.size × (l.map.else_index ≡ 2 * l.count)
