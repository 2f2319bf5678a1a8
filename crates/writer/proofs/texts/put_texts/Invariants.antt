-- `put_texts` puts the rows' texts. The loop's invariant: so far they are there.
use Rattle.writer.specs.Slots.{slot_at}
use Rattle.writer.specs.Writing.{row_text}
use Rattle.writer.proofs.WroteLaws.{SoFar}
use Rattle.writer.proofs.texts.put_texts.Given as goal

abbrev pub invariant-loop-i : goal.invariant-loop-i
invariant-loop-i l = SoFar (row_text l.rows.rule.now l.rows.table.now (slot_at l.rows.work.now)) l.initial.output l.at l.rows.count l.i l.p l.output
