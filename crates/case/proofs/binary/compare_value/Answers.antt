-- `compare_value` puts the comparison with one value in the slots of the listed rows.
use Rattle.case.proofs.CompareLaws.{orders_filled}
use Rattle.case.proofs.binary.compare_value.Goals as goal

pub returns : goal.returns
returns c = orders_filled c.args.less c.compare_list.ensures c.put_orders.ensures
