-- A literal that stands at the place can be stored, so the slots have its value.
use Rattle.case.proofs.CellLaws.{literal_filled}
use Rattle.rule.proofs.LiteralLaws.{literal_gives}
use Rattle.case.proofs.literal.fill_literal.Goals as goal

pub returns : goal.returns
returns c = literal_filled (literal_gives c.literal_value.ensures) c.stored-v.ensures.1 c.fill_value.ensures
