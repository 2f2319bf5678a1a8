-- `read` reads literal by literal. The loop's invariant: whatever literals stand there, those read are held, and the others stand at the place.
use Rattle.case.proofs.LookUpTrees.{LiteralsSoFar}
use Rattle.case.proofs.literal_lookup_table.Literals.read.Given as goal

abbrev pub invariant-loop-i : goal.invariant-loop-i
invariant-loop-i l = LiteralsSoFar l.rule l.at l.end l.most l.place l.i l.self.kinds l.self.payloads
