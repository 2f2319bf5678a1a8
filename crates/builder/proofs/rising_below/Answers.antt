use native.Mathlib.Omega.{arith}
use Rattle.builder.proofs.BuilderLaws.{rises_more, rises_falls, rises_above, rises_all}
use Rattle.builder.proofs.rising_below.Goals.{then-row-from-via-then-row-from, then-row-from-via-else-row-from+then-count-row}
use Rattle.builder.proofs.rising_below.Goals as goal

pub returns-then-row-from : goal.returns-then-row-from
returns-then-row-from c = elim c.then-row-from.branch [
  | then-row-from-via-then-row-from w ↦ rises_falls c.args.rows.now c.args.count c.loop-row.from c.loop-row.row-index c.loop-row.invariant c.loop-row-test.true w.if-row-from.true
  | then-row-from-via-else-row-from+then-count-row w ↦ rises_above c.args.rows.now c.args.count c.loop-row.from c.loop-row.row-index c.loop-row.invariant c.loop-row-test.true w.if-row-from.false w.if-count-row.true
]

pub loop-row-preserved : goal.loop-row-preserved
loop-row-preserved c = rises_more c.args.rows.now c.args.count c.loop-row.from c.loop-row.row-index c.loop-row.invariant c.loop-row-test.true c.if-row-from.false c.if-count-row.false (omega (arith, c.type_inv.rows c.loop-row.row-index))

pub returns : goal.returns
returns c = rises_all c.args.rows.now c.args.count c.loop-row.from c.loop-row.row-index c.loop-row.invariant c.loop-row-test.false
