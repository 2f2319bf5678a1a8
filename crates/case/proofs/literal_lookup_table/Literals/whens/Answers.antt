use Rattle.std.proofs.Common.{◌∙◌, arith}
use Rattle.case.proofs.LookUpLaws.{table_none, table_more, added_behind}
use Rattle.case.proofs.literal_lookup_table.Literals.whens.Goals as goal

pub loop-when-init : goal.loop-when-init
loop-when-init c = (table_none c.args.map.now.whens c.requires.none.0, c.requires.none.1)

pub add-requires : goal.add-requires
add-requires c = (omega (arith, c.loop-when.invariant.0.no_more), omega (arith, c.loop-when.invariant.1), c.loop-when.invariant.0.each_once)

pub loop-when-preserved : goal.loop-when-preserved
loop-when-preserved c = (table_more _ c.loop-when.invariant.0 (omega arith) (omega arith) (omega arith) (added_behind c.loop-when.invariant.1 c.add.ensures.added), c.add.ensures.else_index ∙ c.loop-when.invariant.1)
