use Rattle.layout.proofs.PutLaws.{wrote_as, room_as}
use Rattle.writer.proofs.WroteLaws.{so_far_none, so_far_room, so_far_more}
use Rattle.writer.proofs.texts.put_texts.Goals as goal

pub loop-i-init : goal.loop-i-init
loop-i-init c = so_far_none c.requires

pub put_bytes-p-requires : goal.put_bytes-p-requires
put_bytes-p-requires c = room_as _ _ c.text.ensures (so_far_room c.loop-i.invariant c.requires c.loop-i-test.true)

pub loop-i-preserved : goal.loop-i-preserved
loop-i-preserved c = so_far_more c.loop-i.invariant c.loop-i-test.true (wrote_as c.text.ensures c.put_bytes-p.ensures)
