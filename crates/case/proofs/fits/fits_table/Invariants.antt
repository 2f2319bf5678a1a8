-- `fits_table` tests the marks in turn that a table can have columns for, and that there are no others. The loop's invariant: those below `i` fit. The measure is what is left of 16.
use Rattle.case.proofs.FitsLaws.{Fitted}
use Rattle.case.proofs.fits.fits_table.Given as goal

abbrev pub invariant-loop-i : goal.invariant-loop-i
invariant-loop-i l = Fitted l.seen.marks l.t l.i
