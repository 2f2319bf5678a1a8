use Rattle.std.proofs.Common.{arith}
use Rattle.case.proofs.RowsLaws.{ends, row_fits, next}
use Rattle.case.proofs.ColumnSlotLaws.{number_right}
use Rattle.case.proofs.column.fill_numbers.Goals as goal

pub loop-i-preserved : goal.loop-i-preserved
loop-i-preserved c = next c.loop-i.invariant c.requires c.loop-i-test.true c.row_at-r.ensures c.put_parts.ensures (number_right c.args.kind c.args.validity.now c.args.values.now c.row_at-r.result c.kind_at-k.result c.payload_at-p.result c.kind_at-k.ensures c.payload_at-p.ensures)

pub returns : goal.returns
returns c = ends c.loop-i.invariant (omega arith)

pub put_parts-requires : goal.put_parts-requires
put_parts-requires c = row_fits c.loop-i.invariant c.requires c.loop-i-test.true c.row_at-r.ensures
