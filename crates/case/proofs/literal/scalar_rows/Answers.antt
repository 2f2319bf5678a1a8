-- Both literals can be stored where they stand at their places, the second also once it is cast.
use Rattle.scalar.proofs.OperationLaws.{try_cast_gives}
use Rattle.case.proofs.CellLaws.{scalars_filled}
use Rattle.rule.proofs.TypeOfLaws.{type_gives}
use Rattle.rule.proofs.WalkLaws.{end_gives}
use Rattle.rule.proofs.LiteralLaws.{literal_gives}
use Rattle.case.proofs.literal.scalar_rows.Goals as goal

pub returns : goal.returns
returns c = scalars_filled (end_gives c.field_end-els.ensures) (literal_gives c.literal_value.ensures) c.stored-then.ensures.1 (type_gives c.type_of-to.ensures) (literal_gives c.literal_value-2.ensures) (try_cast_gives _ c.literal_value-2.result c.try_cast.ensures) c.stored-other.ensures.1 c.choose_scalar.ensures
