-- `less` says what the order of its values says. Assumes nothing.
use Rattle.std.proofs.Common.{◌∙◌}
use Rattle.scalar.proofs.CompareLaws.{less_said}
use Rattle.scalar.proofs.compare.less.Goals as goal

pub returns : goal.returns
returns c = c.compared.ensures ∙ less_said c.args.rule.now c.args.table.now c.args.a c.args.b _ c.order_of.ensures
