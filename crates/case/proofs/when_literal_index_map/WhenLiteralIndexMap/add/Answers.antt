-- `add` drops a null WHEN and one whose key is there, and adds any other.
use Rattle.std.proofs.Common.{sym, subst, arith}
use Rattle.scalar.specs.Value.{Storable}
use Rattle.scalar.proofs.ValueLaws.{value_of_stores}
use Rattle.case.proofs.LookUpLaws.{null_dropped, equal_dropped, key_added, added_value}
use Rattle.case.proofs.when_literal_index_map.WhenLiteralIndexMap.add.Goals as goal

pub returns-then-kind-eq0-clause-added : goal.returns-then-kind-eq0-clause-added
returns-then-kind-eq0-clause-added c = added_value c.value_of-v.ensures (null_dropped c.args.rule.now c.args.table.now c.args.self.now.whens c.requires.2 c.kind.ensures c.if-kind-eq0.true)

pub returns-then-map_to_when_index-self-clause-added : goal.returns-then-map_to_when_index-self-clause-added
returns-then-map_to_when_index-self-clause-added c = added_value c.value_of-v.ensures (equal_dropped c.args.rule.now c.args.table.now c.args.self.now.whens c.requires.2 c.map_to_when_index.ensures c.if-map_to_when_index-self.true)

pub invariant_of-self-clause-whens : goal.invariant_of-self-clause-whens
invariant_of-self-clause-whens c = (key_added c.args.rule.now c.args.table.now c.args.self.now.whens c.requires.2 c.requires.0 c.requires.1 (subst Storable (sym c.value_of-v.ensures) (value_of_stores c.args.code c.args.key (omega (arith, c.ranges.key)))) c.kind.ensures c.if-kind-eq0.false c.map_to_when_index.ensures c.if-map_to_when_index-self.false c.kind-2.ensures c.payload.ensures).arrays

pub returns-clause-added : goal.returns-clause-added
returns-clause-added c = added_value c.value_of-v.ensures (key_added c.args.rule.now c.args.table.now c.args.self.now.whens c.requires.2 c.requires.0 c.requires.1 (subst Storable (sym c.value_of-v.ensures) (value_of_stores c.args.code c.args.key (omega (arith, c.ranges.key)))) c.kind.ensures c.if-kind-eq0.false c.map_to_when_index.ensures c.if-map_to_when_index-self.false c.kind-2.ensures c.payload.ensures)
