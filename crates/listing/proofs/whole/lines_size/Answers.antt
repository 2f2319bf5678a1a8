use native.Mathlib.Omega.{arith}
use Rattle.table.specs.Places.{column_in}
use Rattle.listing.proofs.WholeLaws.{size_none, row_fits, size_fits, size_more}
use Rattle.listing.proofs.whole.lines_size.Goals as goal

pub loop-row-init : goal.loop-row-init
loop-row-init c = size_none (column_in c.args.bytes.now c.args.place) c.args.rows c.decimal_places-size.ensures.0

pub row_size-size-requires : goal.row_size-size-requires
row_size-size-requires c = row_fits c.loop-row.invariant c.loop-row-test.true c.requires

pub overflow_add-size-in-loop-row : goal.overflow_add-size-in-loop-row
overflow_add-size-in-loop-row c = omega (arith, size_fits c.loop-row.invariant c.loop-row-test.true c.row_size-size.ensures c.requires)

pub loop-row-preserved : goal.loop-row-preserved
loop-row-preserved c = size_more c.loop-row.invariant c.loop-row-test.true c.row_size-size.ensures
