use native.Mathlib.Omega.{arith}
use mathlib.Core.Path.{ap}
use lib.ListN.{length}
use Rattle.writer.specs.Slots.{slot_at}
use Rattle.writer.proofs.RowTextLaws.{length_none, length_more, text_fits}
use Rattle.writer.proofs.texts.text_length.Goals as goal

pub loop-i-init : goal.loop-i-init
loop-i-init c = length_none

pub overflow_add-sum : goal.overflow_add-sum
overflow_add-sum c = omega (arith, text_fits c.args.rows.now.rule.now c.args.rows.now.table.now (slot_at c.args.rows.now.work.now) c.loop-i.invariant c.loop-i-test.true c.args.rows.now.few c.args.rows.now.rule_short c.args.rows.now.table_short (ap length c.text.ensures))

pub loop-i-preserved : goal.loop-i-preserved
loop-i-preserved c = length_more c.loop-i.invariant c.loop-i-test.true (ap length c.text.ensures)
