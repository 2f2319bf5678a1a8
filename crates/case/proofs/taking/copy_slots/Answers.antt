use Rattle.std.proofs.Common.{arith}
use Rattle.case.proofs.RowsLaws.{ends, row_fits_from, next_fresh_from, next_from}
use Rattle.case.proofs.taking.copy_slots.Goals as goal

pub loop-i-preserved : goal.loop-i-preserved
loop-i-preserved c = next_from c.loop-i.invariant c.requires.fillable_from c.loop-i-test.true c.row_at-r.ensures c.copy_slot.ensures (next_fresh_from c.loop-i.invariant c.requires.fillable_from c.loop-i-test.true c.row_at-r.ensures)

pub returns : goal.returns
returns c = ends c.loop-i.invariant (omega arith)

pub copy_slot-requires : goal.copy_slot-requires
copy_slot-requires c = ((row_fits_from c.loop-i.invariant c.requires.fillable_from c.loop-i-test.true c.row_at-r.ensures).0, omega (arith, c.loop-i.invariant.done.long, c.requires.in_bounds))
