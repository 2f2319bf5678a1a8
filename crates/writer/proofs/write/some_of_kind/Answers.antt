use Rattle.writer.specs.Slots.{slot_at}
use Rattle.writer.proofs.RowKindLaws.{none_yet, kind_found, kind_more}
use Rattle.writer.proofs.write.some_of_kind.Goals as goal

pub loop-i-init : goal.loop-i-init
loop-i-init c = none_yet

pub returns-then-kind-k : goal.returns-then-kind-k
returns-then-kind-k c = kind_found (slot_at c.args.rows.now.work.now) c.args.k c.args.rows.now.count c.loop-i.i c.loop-i-test.true c.kind.ensures c.value.ensures c.if-kind-k.true

pub loop-i-preserved : goal.loop-i-preserved
loop-i-preserved c = kind_more (slot_at c.args.rows.now.work.now) c.args.k c.loop-i.invariant c.loop-i-test.true c.kind.ensures c.value.ensures c.if-kind-k.false
