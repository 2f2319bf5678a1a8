-- `lines_size` adds the lengths of the lines. The loop's invariant: those up to a row are added.
use Rattle.table.specs.Places.{column_in}
use Rattle.listing.proofs.WholeLaws.{SizeSoFar}
use Rattle.listing.proofs.whole.lines_size.Given as goal

abbrev pub invariant-loop-row : goal.invariant-loop-row
invariant-loop-row l = SizeSoFar (column_in l.bytes l.place) l.rows l.row l.size
