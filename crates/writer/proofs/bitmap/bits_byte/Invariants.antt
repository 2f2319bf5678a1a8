-- `bits_byte` takes the bits from the last to the first. The loop's invariant: the bits from k on.
use Prim.Native.Nat.{◌*◌}
use Rattle.writer.specs.Slots.{slot_at}
use Rattle.writer.specs.Writing.{flag_at}
use Rattle.writer.proofs.RowBitLaws.{BitsSoFar}
use Rattle.writer.proofs.bitmap.bits_byte.Given as goal

abbrev pub invariant-loop-k : goal.invariant-loop-k
invariant-loop-k l = BitsSoFar (flag_at l.truth (slot_at l.rows.work.now) l.rows.count) (8 * l.j) l.k l.n
