-- `Results::put` puts the literal at each row's index in the row's slot. The loop's invariant: so far it is there.
use Rattle.case.specs.Results.{PutBy}
use Rattle.case.proofs.RowsLaws.{FilledSoFar}
use Rattle.case.proofs.results.Results.put.Given as goal

abbrev pub invariant-loop-i : goal.invariant-loop-i
invariant-loop-i l = FilledSoFar (PutBy l.self.kinds l.self.payloads l.values) l.initial.work l.n l.i l.work
