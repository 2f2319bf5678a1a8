-- `pick` lists the rows of an index for the next frame, one row a turn. The loop's invariant: so far they are listed.
use Rattle.case.proofs.TakingLaws.{PickedSoFar}
use Rattle.case.specs.Taking.{HasIndex}
use Rattle.case.proofs.taking.pick.Given as goal

abbrev pub invariant-loop-i : goal.invariant-loop-i
invariant-loop-i l = PickedSoFar (HasIndex l.values l.k) l.initial.work l.n l.i l.m l.work
