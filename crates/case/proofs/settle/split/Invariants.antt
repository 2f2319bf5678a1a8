-- `split` parts the rows that leave from those that stay, one row a turn. The loop's invariant: so far they are parted.
use Rattle.case.proofs.SplitLaws.{SplitSoFar}
use Rattle.case.proofs.settle.split.Given as goal

abbrev pub invariant-loop-i : goal.invariant-loop-i
invariant-loop-i g l = SplitSoFar (g.L.Leaving.class l.leaving l.initial.work) l.initial.work l.left l.i l.m l.rows l.values l.work
