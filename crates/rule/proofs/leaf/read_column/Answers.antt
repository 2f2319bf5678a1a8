-- A column is three bytes: its type is known, and it is met.
use mathlib.Core.Path.{ap, sym, ◌∙◌}
use Rattle.scalar.specs.Types.{type_means}
use Rattle.scalar.proofs.TypeLaws.{type_means_lem}
use Rattle.rule.proofs.StepLaws.{none_of}
use Rattle.layout.proofs.AnswerLaws.{passed_on}
use Rattle.rule.proofs.LeafLaws.{column_sized, column_typed, column_met}
use Rattle.rule.proofs.leaf.read_column.Goals as goal

pub returns-then-node-ne3 : goal.returns-then-node-ne3
returns-then-node-ne3 c = λ cols outer s. column_sized c.args.node.content.now cols outer c.args.node.end c.if-node-ne3.true

pub returns-in_err-data_type : goal.returns-in_err-data_type
returns-in_err-data_type c = λ cols outer s. rw (passed_on c.from_residual.result c.from_residual.ensures.1, none_of _ _ c.in_err-data_type.ensures.ok_part c.in_err-data_type.ensures.value) (column_typed c.args.node.content.now cols outer c.args.node.end c.if-node-ne3.false (sym (type_means_lem 3 _ c.numbered.ensures) ∙ ap (type_means 3) c.in_err-data_type.ensures.ok_part))

pub returns : goal.returns
returns c = λ cols outer s. column_met c.args.node.content.now cols outer c.args.node.end _ c.if-node-ne3.false (sym (type_means_lem 3 _ c.numbered.ensures) ∙ ap (type_means 3) c.in_ok-data_type.ensures.ok_part) (c.meet_column.ensures cols outer s)
