use native.Mathlib.Omega.{arith}
use mathlib.Core.Path.{ap}
use lib.ListN.{length}
use Rattle.writer.specs.Slots.{slot_at}
use Rattle.writer.proofs.RowTextLaws.{offsets_none, offset_room, offsets_more, offsets_end_lem, text_within}
use Rattle.writer.proofs.texts.put_offsets.Goals as goal

pub loop-i-init : goal.loop-i-init
loop-i-init c = offsets_none c.requires.1

pub put_number-p-requires : goal.put_number-p-requires
put_number-p-requires c = offset_room c.loop-i.invariant c.requires.1

pub overflow_add-sum : goal.overflow_add-sum
overflow_add-sum c = omega (arith, text_within c.args.rows.now.rule.now c.args.rows.now.table.now (slot_at c.args.rows.now.work.now) c.loop-i.invariant.counted c.loop-i-test.true c.requires.0 (ap length c.text.ensures))

pub loop-i-preserved : goal.loop-i-preserved
loop-i-preserved c = offsets_more c.loop-i.invariant c.put_number-p.ensures c.loop-i-test.true (ap length c.text.ensures)

pub put_number-requires : goal.put_number-requires
put_number-requires c = offset_room c.loop-i.invariant c.requires.1

pub returns : goal.returns
returns c = offsets_end_lem c.loop-i.invariant c.put_number.ensures c.loop-i-test.false
