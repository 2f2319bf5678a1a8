-- `base_index` finds a Boolean in its own table; every index lies among the literals.
use Rattle.std.proofs.Common.{arith}
use Rattle.case.proofs.LookUpLaws.{boolean_index, index_below}
use Rattle.case.proofs.literal_lookup_table.LiteralLookupTable.base_index.Goals as goal

pub returns-in-Boolean : goal.returns-in-Boolean
returns-in-Boolean c =
    let is = boolean_index c.args.rule.now c.args.table.now c.args.self.now.whens.whens c.in-Boolean.is c.requires c.index.ensures in
    record { is = is; below = index_below c.args.rule.now c.args.table.now c.args.self.now.whens.whens c.args.v is (omega (arith, c.args.self.now.whens.small)) }

pub returns-in_default : goal.returns-in_default
returns-in_default c = record {
  is = c.map_to_when_index.ensures;
  below = index_below c.args.rule.now c.args.table.now c.args.self.now.whens.whens c.args.v c.map_to_when_index.ensures (omega (arith, c.args.self.now.whens.small));
}
