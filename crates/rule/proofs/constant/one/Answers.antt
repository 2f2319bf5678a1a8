-- `one` has an arm for each operation on one value.
use borrow.Author.Rules.{rules}
use Rattle.rule.proofs.ConstantNode.{one_negative, one_cast, one_try_cast}
use Rattle.scalar.proofs.CastLaws.{cast_gives}
use Rattle.scalar.proofs.OperationLaws.{negative_gives, try_cast_gives}
use Rattle.rule.proofs.LiteralLaws.{numbered_gives}
use Rattle.rule.proofs.constant.one.Goals as goal

pub returns-in-19 : goal.returns-in-19
returns-in-19 c = one_negative c.in-19.is (negative_gives _ c.negative.ensures.0 c.negative.ensures.1)

pub returns-in-21 : goal.returns-in-21
returns-in-21 c = one_cast c.in-21.is (numbered_gives c.type_numbered.ensures) (cast_gives _ _ c.cast.ensures)

pub returns-in_default : goal.returns-in_default
returns-in_default c = one_try_cast (search rules) (numbered_gives c.type_numbered-in_default.ensures) (try_cast_gives _ _ c.try_cast.ensures)
