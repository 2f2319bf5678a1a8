-- Offsets never fall: the first i + 1 don't, and what is left decides.
use Rattle.table.proofs.OffsetLaws.{FallsSoFar}
use Rattle.table.proofs.part.never_falls.Given as goal

abbrev pub invariant-loop-i : goal.invariant-loop-i
invariant-loop-i l = FallsSoFar l.offsets l.count l.last l.i
