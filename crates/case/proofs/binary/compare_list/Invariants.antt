-- `compare_list` gives each row its order. The loop's invariant: the first rows have theirs. That there is room for every row is told of an array of numbers, but not of one of an enum.
use Rattle.std.proofs.Common.{◌≡◌, ℕ, cond, length}
use Rattle.scalar.specs.declared.order.Order.{Order}
use Rattle.case.specs.Frame.{slot_at, next_slot}
use Rattle.case.specs.Taking.{OrderRight, RowsOrdered}
use Rattle.case.proofs.binary.compare_list.Given as goal

abbrev pub invariant-loop-i : goal.invariant-loop-i
invariant-loop-i l = (length l.orders ≡ 512) × RowsOrdered (λ (r : ℕ) (o : Order). OrderRight l.rule l.table (slot_at l.work r) (cond l.fixed l.b (next_slot l.work r)) o) l.work l.at l.i l.orders
