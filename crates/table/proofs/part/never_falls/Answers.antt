use Rattle.table.proofs.OffsetLaws.{falls_more, falls_found, falls_all}
use Rattle.table.proofs.part.never_falls.Goals as goal

pub returns-then-next-last : goal.returns-then-next-last
returns-then-next-last c = falls_found c.args.offsets.now c.args.count c.loop-i.last c.loop-i.i c.offset_at-next.result c.loop-i.invariant c.loop-i-test.true c.offset_at-next.ensures c.if-next-last.true

pub loop-i-preserved : goal.loop-i-preserved
loop-i-preserved c = falls_more c.args.offsets.now c.args.count c.loop-i.last c.loop-i.i c.offset_at-next.result c.loop-i.invariant c.loop-i-test.true c.offset_at-next.ensures c.if-next-last.false

pub returns : goal.returns
returns c = falls_all c.args.offsets.now c.args.count c.loop-i.last c.loop-i.i c.loop-i.invariant c.loop-i-test.false
