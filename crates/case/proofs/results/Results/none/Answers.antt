use Rattle.case.proofs.LookUpTrees.{zeros}
use Rattle.case.proofs.results.Results.none.Goals as goal

pub returns : goal.returns
returns c = zeros 258
