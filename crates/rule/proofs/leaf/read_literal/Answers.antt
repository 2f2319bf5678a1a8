-- A literal is a type, a null mark, and a value that fits them.
use mathlib.Core.Path.{ap, ◌∙◌, sym}
use Rattle.scalar.specs.Types.{type_means}
use Rattle.scalar.proofs.TypeLaws.{type_means_lem}
use Rattle.rule.proofs.StepLaws.{none_of}
use Rattle.layout.proofs.AnswerLaws.{passed_on}
use Rattle.rule.proofs.LeafLaws.{literal_sized, literal_typed, literal_unfit, literal_read}
use Rattle.rule.proofs.leaf.read_literal.Goals as goal

pub returns-then-node-lt2 : goal.returns-then-node-lt2
returns-then-node-lt2 c = λ cols outer s. literal_sized cols outer c.args.node.end c.args.node.content.now c.if-node-lt2.true

pub returns-in_err-data_type : goal.returns-in_err-data_type
returns-in_err-data_type c = λ cols outer s. rw (passed_on c.from_residual.result c.from_residual.ensures.1, none_of _ _ c.in_err-data_type.ensures.ok_part c.in_err-data_type.ensures.value) (literal_typed cols outer c.args.node.end c.args.node.content.now c.if-node-lt2.false (sym (type_means_lem 3 _ c.numbered.ensures) ∙ ap (type_means 3) c.in_err-data_type.ensures.ok_part))

pub returns-then-not-value_fits : goal.returns-then-not-value_fits
returns-then-not-value_fits c = λ cols outer s. literal_unfit cols outer c.args.node.end _ c.args.node.content.now c.if-node-lt2.false (sym (type_means_lem 3 _ c.numbered.ensures) ∙ ap (type_means 3) c.in_ok-data_type.ensures.ok_part) c.value_fits.result c.value_fits.ensures c.if-not-value_fits.true

pub returns : goal.returns
returns c = λ cols outer s. literal_read cols outer c.args.node.end _ c.args.node.content.now c.if-node-lt2.false (sym (type_means_lem 3 _ c.numbered.ensures) ∙ ap (type_means 3) c.in_ok-data_type.ensures.ok_part) c.value_fits.result c.value_fits.ensures c.if-not-value_fits.false s
