-- `order_of` gives the order of two values, by their keys and their texts. Assumes nothing.
use borrow.Author.Rules.{rules}
use Rattle.std.proofs.Common.{refl}
use Rattle.scalar.proofs.OrderLaws.{text_first, no_text_first}
use Rattle.scalar.proofs.order.order_of.Goals as goal

pub returns-in-RuleText : goal.returns-in-RuleText
returns-in-RuleText c = text_first c.args.rule.now c.args.table.now c.args.a _ c.args.b c.in-RuleText.is refl c.place_text.ensures (_, c.well_formed.1.1.0) (_, c.well_formed.1.1.1.0) c.text_beside.ensures

pub returns-in-TableText : goal.returns-in-TableText
returns-in-TableText c = text_first c.args.rule.now c.args.table.now c.args.a _ c.args.b c.in-TableText.is refl c.place_text-in-TableText.ensures (_, c.well_formed.1.1.0) (_, c.well_formed.1.1.1.0) c.text_beside-in-TableText.ensures

pub returns-in_default : goal.returns-in_default
returns-in_default c = no_text_first c.args.rule.now c.args.table.now c.args.a c.args.b (search rules) (_, c.well_formed.1.1.0) (_, c.well_formed.1.1.1.0) c.key_of.ensures c.key_of-in_default.ensures c.key_order.ensures
