-- `text_length` adds up the rows' texts. The loop's invariant: the length so far.
use Rattle.writer.specs.Slots.{slot_at}
use Rattle.writer.specs.Writing.{row_text}
use Rattle.writer.proofs.RowTextLaws.{LengthSoFar}
use Rattle.writer.proofs.texts.text_length.Given as goal

abbrev pub invariant-loop-i : goal.invariant-loop-i
invariant-loop-i l = LengthSoFar (row_text l.rows.rule.now l.rows.table.now (slot_at l.rows.work.now)) l.rows.count l.i l.sum
