-- `equal` says what the order of its values says. Assumes nothing.
use Rattle.std.proofs.Common.{◌∙◌}
use Rattle.scalar.proofs.CompareLaws.{equal_said}
use Rattle.scalar.proofs.compare.equal.Goals as goal

pub returns : goal.returns
returns c = c.compared.ensures ∙ equal_said c.args.rule.now c.args.table.now c.args.a c.args.b _ c.order_of.ensures
