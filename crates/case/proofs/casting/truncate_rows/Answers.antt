use Rattle.std.proofs.Common.{arith}
use Rattle.case.proofs.RowsLaws.{ends, row_fits}
use Rattle.case.proofs.CastingLaws.{row_done, row_kept}
use Rattle.case.proofs.casting.truncate_rows.Goals as goal

pub returns-then-not-truncate_row : goal.returns-then-not-truncate_row
returns-then-not-truncate_row c = let s = row_kept c.loop-i.invariant c.requires c.loop-i-test.true c.row_at-r.ensures c.truncate_row.ensures c.if-not-truncate_row.true in (s.few, s.done)

pub loop-i-preserved : goal.loop-i-preserved
loop-i-preserved c = row_done c.loop-i.invariant c.requires c.loop-i-test.true c.row_at-r.ensures c.truncate_row.ensures c.if-not-truncate_row.false

pub returns : goal.returns
returns c = (omega arith, ends c.loop-i.invariant (omega arith))

pub truncate_row-requires : goal.truncate_row-requires
truncate_row-requires c = row_fits c.loop-i.invariant c.requires c.loop-i-test.true c.row_at-r.ensures
