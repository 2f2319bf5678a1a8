-- A column beside a literal, or no step.
use Rattle.std.proofs.Common.{sym, ◌∙◌}
use Rattle.case.proofs.StepLaws.{sides_some}
use Rattle.rule.proofs.LiteralLaws.{literal_gives}
use Rattle.case.proofs.steps.step_between.Goals as goal

pub returns : goal.returns
returns c = sides_some c.args.rule.now c.args.comparison c.args.at c.args.literal c.args.end c.literal_value.result (sym c.byte_at.ensures ∙ c.if-byte_at-ne-COLUMN.false) (sym c.byte_at-2.ensures ∙ c.if-byte_at-ne-LITERAL.false) c.byte_at-3.ensures (literal_gives c.literal_value.ensures) c.key_of.ensures c.step_of.ensures
