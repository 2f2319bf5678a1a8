use Rattle.writer.specs.Write.{slot_fits}
use Rattle.writer.proofs.FitLaws.{each_none, each_more, each_fails, slot_fit}
use Rattle.writer.proofs.write.slots_fit.Goals as goal

pub loop-i-init : goal.loop-i-init
loop-i-init c = each_none

pub returns-then-not-kind_fits : goal.returns-then-not-kind_fits
returns-then-not-kind_fits c = each_fails (slot_fits c.args.code c.args.rows.now.work.now) c.args.rows.now.count c.loop-i.i c.loop-i-test.true (slot_fit c.args.rows.now.work.now c.args.code c.loop-i.i c.kind_fits.ensures c.kind.ensures c.value.ensures c.if-not-kind_fits.true)

pub loop-i-preserved : goal.loop-i-preserved
loop-i-preserved c = each_more c.loop-i.invariant c.loop-i-test.true (slot_fit c.args.rows.now.work.now c.args.code c.loop-i.i c.kind_fits.ensures c.kind.ensures c.value.ensures c.if-not-kind_fits.false)
