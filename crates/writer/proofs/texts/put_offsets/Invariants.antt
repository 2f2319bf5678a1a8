-- `put_offsets` puts the rows' offsets and the last one's end. The loop's invariant: so far they are there, and the texts are counted.
use Rattle.writer.specs.Slots.{slot_at}
use Rattle.writer.proofs.RowTextLaws.{OffsetsSoFar}
use Rattle.writer.proofs.texts.put_offsets.Given as goal

abbrev pub invariant-loop-i : goal.invariant-loop-i
invariant-loop-i l = OffsetsSoFar l.rows.rule.now l.rows.table.now (slot_at l.rows.work.now) l.initial.output l.at l.rows.count l.i l.sum l.p l.output
