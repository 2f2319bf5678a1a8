use Rattle.writer.proofs.RowBitLaws.{bits_none, bits_more}
use Rattle.writer.proofs.bitmap.bits_byte.Goals as goal

pub loop-k-init : goal.loop-k-init
loop-k-init c = bits_none

pub loop-k-preserved : goal.loop-k-preserved
loop-k-preserved c = bits_more c.loop-k.invariant c.loop-k-test.true c.bit.ensures
