-- `start_results` reads the literals and puts each row's in its slot.
use Rattle.case.proofs.ResultLaws.{start_right}
use Rattle.case.proofs.results.start_results.Goals as goal

pub returns : goal.returns
returns c = start_right c.read.ensures c.put.ensures
