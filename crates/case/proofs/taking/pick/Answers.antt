use Rattle.std.proofs.Common.{arith}
use Rattle.case.proofs.TakingLaws.{pick_fits, put_in, picked_hit, picked_miss}
use Rattle.case.proofs.taking.pick.Goals as goal
use Rattle.case.proofs.taking.pick.Goals.{then-values-r, else-values-r}

pub loop-i-preserved : goal.loop-i-preserved
loop-i-preserved c = elim c.if-values-r.branch [ then-values-r w ↦ picked_hit c.loop-i.invariant c.requires.rows c.requires.in_bounds c.loop-i-test.true c.row_at-r.ensures w.put_row.ensures w.if-values-r.true w.work-is w.m-is | else-values-r w ↦ picked_miss c.loop-i.invariant c.requires.rows c.requires.in_bounds c.loop-i-test.true c.row_at-r.ensures w.if-values-r.false w.work-is w.m-is ]

pub bounds-values-r : goal.bounds-values-r
bounds-values-r c = omega (arith, pick_fits c.loop-i.invariant c.requires.rows c.requires.in_bounds c.loop-i-test.true c.row_at-r.ensures)

pub offset_bounds-values-r : goal.offset_bounds-values-r
offset_bounds-values-r c = omega (arith, pick_fits c.loop-i.invariant c.requires.rows c.requires.in_bounds c.loop-i-test.true c.row_at-r.ensures)

pub put_row-requires : goal.put_row-requires
put_row-requires c = put_in c.loop-i.invariant c.requires.rows c.requires.in_bounds c.loop-i-test.true c.row_at-r.ensures
