-- `write_lines` writes the head line and the rows' behind it. The loop's invariant: those of the rows before one are written.
use Rattle.table.specs.Places.{column_in}
use Rattle.listing.proofs.WholeLaws.{LinesSoFar}
use Rattle.listing.proofs.whole.write_lines.Given as goal

abbrev pub invariant-loop-row : goal.invariant-loop-row
invariant-loop-row l = LinesSoFar l.initial.out l.initial.p (column_in l.bytes l.place) l.rows l.row l.p l.out
