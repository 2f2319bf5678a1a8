-- `rising_below` tells rising rows. The loop's invariant: what is left decides.
use Rattle.builder.proofs.BuilderLaws.{RisesSoFar}
use Rattle.builder.proofs.rising_below.Given as goal

abbrev pub invariant-loop-row : goal.invariant-loop-row
invariant-loop-row l = RisesSoFar l.rows l.count l.from l.row-index
