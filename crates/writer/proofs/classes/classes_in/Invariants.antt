-- `classes_in` goes class by class. The loop's invariant: the greatest of those passed.
use Rattle.writer.proofs.FitLaws.{MostSoFar}
use Rattle.writer.proofs.classes.classes_in.Given as goal

abbrev pub invariant-loop-class : goal.invariant-loop-class
invariant-loop-class l = MostSoFar l.fn.classes l.class-index l.most
