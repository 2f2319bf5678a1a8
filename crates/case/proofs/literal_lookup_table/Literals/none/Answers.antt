use Rattle.case.proofs.LookUpTrees.{zeros}
use Rattle.case.proofs.literal_lookup_table.Literals.none.Goals as goal

pub returns : goal.returns
returns c = zeros 66
