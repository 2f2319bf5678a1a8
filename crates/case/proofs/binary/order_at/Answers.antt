-- `order_at` gives the order of two values, by their texts where both are text, else by their keys.
use Rattle.scalar.proofs.OrderLaws.{both_text, not_both_text}
use Rattle.case.proofs.CompareLaws.{first_none, second_none, texts_are}
use Rattle.case.proofs.binary.order_at.Goals as goal
use Rattle.case.proofs.binary.order_at.Goals.{else-is_text-via-then-is_text+else-is_text-2, else-is_text-via-else-is_text}

pub returns-then-is_text-2 : goal.returns-then-is_text-2
returns-then-is_text-2 c = both_text c.args.rule.now c.args.table.now c.args.a c.args.b (_, c.well_formed.1.1.0) (_, c.well_formed.1.1.1.0) c.is_text.ensures c.if-is_text.true c.is_text-then-is_text.ensures c.if-is_text-2.true (texts_are c.text_order.ensures c.text_at.ensures c.text_at-then-is_text-2.ensures)

pub returns : goal.returns
returns c = not_both_text c.args.rule.now c.args.table.now c.args.a c.args.b (_, c.well_formed.1.1.0) (_, c.well_formed.1.1.1.0) (elim c.else-is_text.branch [ else-is_text-via-then-is_text+else-is_text-2 w ↦ second_none c.args.a c.args.b w.is_text-then-is_text.ensures w.if-is_text-2.false | else-is_text-via-else-is_text w ↦ first_none c.args.a c.args.b c.is_text.ensures w.if-is_text.false ]) c.key_of.ensures c.key_of-2.ensures c.key_order.ensures
