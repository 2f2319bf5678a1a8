-- `slots_fit` looks at the slots from the first on. The loop's invariant: so far they fit.
use Rattle.writer.specs.Write.{slot_fits}
use Rattle.writer.proofs.FitLaws.{EachSoFar}
use Rattle.writer.proofs.write.slots_fit.Given as goal

abbrev pub invariant-loop-i : goal.invariant-loop-i
invariant-loop-i l = EachSoFar (slot_fits l.code l.rows.work.now) l.rows.count l.i
