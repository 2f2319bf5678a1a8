-- `Results::thens` reads THEN by THEN. The loop's invariant: whatever branches stand there, the literals among the THENs read are held, and the other branches stand at the place.
use Rattle.case.proofs.ResultLaws.{ThensSoFar}
use Rattle.case.proofs.results.Results.thens.Given as goal

abbrev pub invariant-loop-k : goal.invariant-loop-k
invariant-loop-k l = ThensSoFar l.rule l.at l.count l.self.kinds l.self.payloads l.place l.k
