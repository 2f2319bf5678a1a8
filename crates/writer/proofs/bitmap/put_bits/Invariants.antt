-- `put_bits` puts the bytes of a bitmap. The loop's invariant: so far they are there, and their bits are counted.
use Rattle.writer.specs.Slots.{slot_at}
use Rattle.writer.proofs.RowCountLaws.{BitsPut}
use Rattle.writer.proofs.bitmap.put_bits.Given as goal

abbrev pub invariant-loop-j : goal.invariant-loop-j
invariant-loop-j l = BitsPut l.truth (slot_at l.rows.work.now) l.rows.count l.initial.output l.at l.j l.p l.set l.output
