use native.Mathlib.Omega.{arith}
use Rattle.writer.proofs.WroteLaws.{so_far_room}
use Rattle.writer.proofs.RowCountLaws.{put_none, put_few, put_more, put_ends}
use Rattle.writer.proofs.bitmap.put_bits.Goals as goal

pub loop-j-init : goal.loop-j-init
loop-j-init c = put_none c.requires

pub put_byte-p-requires : goal.put_byte-p-requires
put_byte-p-requires c = so_far_room c.loop-j.invariant.done c.requires (omega (arith, c.bitmap_length-j-end.ensures, c.loop-j-test.true))

pub overflow_add-set : goal.overflow_add-set
overflow_add-set c = omega (arith, put_few c.loop-j.invariant, c.ones_in-set.ensures.1, c.args.rows.now.few, c.bitmap_length-j-end.ensures, c.loop-j-test.true)

pub loop-j-preserved : goal.loop-j-preserved
loop-j-preserved c = put_more c.loop-j.invariant (omega (arith, c.bitmap_length-j-end.ensures, c.loop-j-test.true)) c.bits_byte-b.ensures c.put_byte-p.ensures c.ones_in-set.ensures.0

pub returns : goal.returns
returns c = put_ends c.loop-j.invariant (omega (arith, c.bitmap_length-j-end.ensures, c.loop-j-test.false))
