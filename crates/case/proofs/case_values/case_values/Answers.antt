-- By the strategy: steps without a base, keys with one, else none.
use Rattle.std.proofs.Common.{sym, ◌∙◌}
use Rattle.case.proofs.CaseLaws.{shape_1, shape_4, shape_5}
use Rattle.case.proofs.CaseValueLaws.{values_none, by_steps, by_keys}
use Rattle.rule.proofs.StrategyLaws.{strategy_gives}
use Rattle.rule.proofs.WalkLaws.{children_gives}
use Rattle.case.proofs.case_values.case_values.Goals as goal

pub returns-then-byte_at-ne-CASE : goal.returns-then-byte_at-ne-CASE
returns-then-byte_at-ne-CASE c = values_none

pub returns-then-rule-start : goal.returns-then-rule-start
returns-then-rule-start c = values_none

pub returns-in-NoExpression : goal.returns-in-NoExpression
returns-in-NoExpression c = by_steps (sym c.byte_at.ensures ∙ c.if-byte_at-ne-CASE.false) c.byte_at-count.ensures (strategy_gives c.strategy_at.ensures) c.in-NoExpression.is shape_1 (λ b bs els s. s) (children_gives c.children_at-at.ensures) c.case_steps.ensures

pub returns-in-WithExpression : goal.returns-in-WithExpression
returns-in-WithExpression c = values_none

pub returns-in-InfallibleExprOrNull : goal.returns-in-InfallibleExprOrNull
returns-in-InfallibleExprOrNull c = values_none

pub returns-in-ScalarOrScalar : goal.returns-in-ScalarOrScalar
returns-in-ScalarOrScalar c = by_steps (sym c.byte_at.ensures ∙ c.if-byte_at-ne-CASE.false) c.byte_at-count.ensures (strategy_gives c.strategy_at.ensures) c.in-ScalarOrScalar.is shape_4 (λ b bs els s. s.3) (children_gives c.children_at-at.ensures) c.case_steps-in-ScalarOrScalar.ensures

pub returns-in-ExpressionOrExpression : goal.returns-in-ExpressionOrExpression
returns-in-ExpressionOrExpression c = by_steps (sym c.byte_at.ensures ∙ c.if-byte_at-ne-CASE.false) c.byte_at-count.ensures (strategy_gives c.strategy_at.ensures) c.in-ExpressionOrExpression.is shape_5 (λ b bs els s. s.2) (children_gives c.children_at-at.ensures) c.case_steps-in-ExpressionOrExpression.ensures

pub returns-in-WithExprScalarLookupTable : goal.returns-in-WithExprScalarLookupTable
returns-in-WithExprScalarLookupTable c = by_keys (sym c.byte_at.ensures ∙ c.if-byte_at-ne-CASE.false) c.byte_at-count.ensures (strategy_gives c.strategy_at.ensures) c.in-WithExprScalarLookupTable.is (children_gives c.children_at-at.ensures) c.case_keys.ensures
