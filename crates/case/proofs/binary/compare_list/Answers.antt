use Rattle.std.proofs.Common.{arith, ◌∙◌, length-set}
use Rattle.case.proofs.CompareLaws.{order_right, orders_more, orders_all}
use Rattle.case.proofs.binary.compare_list.Goals as goal

pub loop-i-preserved : goal.loop-i-preserved
loop-i-preserved c = (length-set c.loop-i.orders c.row_at-r.result c.order_at.result ∙ c.loop-i.invariant.0, orders_more c.loop-i.invariant.0 c.loop-i.invariant.1 c.requires.rows.0 c.loop-i-test.true c.row_at-r.ensures (order_right c.args.rule.now c.args.table.now c.get_slot-x.ensures.0 c.second_side-y.ensures c.order_at.ensures))

pub returns : goal.returns
returns c = orders_all c.loop-i.invariant.1 (omega arith)
