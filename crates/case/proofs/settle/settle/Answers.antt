-- `settle` by the orders of the listed rows, where they are asked for.
use Rattle.case.proofs.ClassLaws.{class_by_slots_lem}
use Rattle.case.proofs.SettleLaws.{settles_as}
use Rattle.case.proofs.settle.settle.Goals as goal

pub returns : goal.returns
returns c = settles_as (class_by_slots_lem c.args.rule.now c.args.table.now c.args.index c.args.failed c.args.how c.fill_orders.ensures) c.settle_rows.ensures
