-- `answer_text`: only a column of text has any.
use Rattle.writer.proofs.SlotRunLaws.{other_text}
use Rattle.writer.proofs.write.answer_text.Goals as goal

pub returns-in_default : goal.returns-in_default
returns-in_default c = other_text c.requires c.in_default.not-Utf8
