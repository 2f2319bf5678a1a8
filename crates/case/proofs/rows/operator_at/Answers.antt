-- `operator_at` goes by the tag, and for the casts by the type byte.
use Rattle.std.proofs.Common.{arith, refl}
use Rattle.case.proofs.ExprLaws.{operator_behind, operator_negative, operator_is_not_null, operator_cast, operator_try_cast, operator_not}
use Rattle.rule.proofs.LiteralLaws.{numbered_gives}
use Rattle.case.proofs.rows.operator_at.Goals as goal

pub returns-then-rule-start : goal.returns-then-rule-start
returns-then-rule-start c = operator_behind c.if-rule-start.true

pub returns-in-19 : goal.returns-in-19
returns-in-19 c = operator_negative c.in-19.is

pub returns-in-20 : goal.returns-in-20
returns-in-20 c = operator_is_not_null c.in-20.is

pub returns-in-21 : goal.returns-in-21
returns-in-21 c = operator_cast c.in-21.is c.byte_at.ensures (numbered_gives c.type_numbered.ensures)

pub returns-in-22 : goal.returns-in-22
returns-in-22 c = operator_try_cast c.in-22.is c.byte_at-in-22.ensures (numbered_gives c.type_numbered-in-22.ensures)

pub returns-in_default : goal.returns-in_default
returns-in_default c = operator_not refl (λ e. omega arith) (λ e. omega arith) (λ e. omega arith) (λ e. omega arith)
