-- `fill_orders` compares the open rows where that is asked for.
use Rattle.case.proofs.ClassLaws.{orders_asked, orders_unasked}
use Rattle.case.proofs.settle.fill_orders.Goals as goal

pub returns-then-asks_equal : goal.returns-then-asks_equal
returns-then-asks_equal c = orders_asked c.compare_list.ensures

pub returns-else-asks_equal : goal.returns-else-asks_equal
returns-else-asks_equal c = orders_unasked c.asks_equal.ensures c.if-asks_equal.false
