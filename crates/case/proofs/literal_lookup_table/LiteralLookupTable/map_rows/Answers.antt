use Rattle.std.proofs.Common.{◌∙◌, arith}
use Rattle.case.specs.LookUpTables.{key_index}
use Rattle.case.proofs.RowsLaws.{none_yet, ends, row_in, row_fits, slot_fresh, next}
use Rattle.case.proofs.LookUpLaws.{mapped_row}
use Rattle.case.proofs.literal_lookup_table.LiteralLookupTable.map_rows.Goals as goal

pub loop-i-init : goal.loop-i-init
loop-i-init c = none_yet

pub row_at-r-requires : goal.row_at-r-requires
row_at-r-requires c = row_in c.loop-i.invariant c.requires.fillable (omega arith)

pub get_slot-v-requires : goal.get_slot-v-requires
get_slot-v-requires c = row_fits c.loop-i.invariant c.requires.fillable (omega arith) c.row_at-r.ensures

pub put_parts-requires : goal.put_parts-requires
put_parts-requires c = row_fits c.loop-i.invariant c.requires.fillable (omega arith) c.row_at-r.ensures

pub loop-i-preserved : goal.loop-i-preserved
loop-i-preserved c = next c.loop-i.invariant c.requires.fillable (omega arith) c.row_at-r.ensures c.put_parts.ensures (mapped_row c.args.rule.now c.args.table.now c.args.self.now.literals.kinds c.args.self.now.literals.payloads (key_index c.args.rule.now c.args.table.now c.args.self.now.whens.kinds c.args.self.now.whens.keys c.args.self.now.whens.indices c.args.self.now.whens.size c.args.self.now.whens.else_index) c.args.self.now.whens.else_index (c.get_slot-v.ensures.0 ∙ slot_fresh c.loop-i.invariant c.requires.fillable (omega arith) c.row_at-r.ensures) c.base_index-j.ensures.is)

pub shape_of-work : goal.shape_of-work
shape_of-work c = c.loop-i.invariant.done.long

pub returns : goal.returns
returns c = ends c.loop-i.invariant (omega arith)
