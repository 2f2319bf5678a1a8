-- `finish` gives each row's value, 0 where none is held. The loop's invariant: the rows before i have theirs, and zeros stand behind.
use Rattle.builder.proofs.BuilderLaws.{FinishedSoFar}
use Rattle.builder.proofs.ResultBuilder.finish.Given as goal

abbrev pub invariant-loop-i : goal.invariant-loop-i
invariant-loop-i l = FinishedSoFar l.self.held l.self.values l.i l.out
