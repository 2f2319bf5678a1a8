-- Bytes behind the last column that a table may have: 9, else 10.
use Rattle.layout.proofs.AnswerLaws.{passed_on}
use Rattle.table.proofs.ReadLaws.{more_refused, more_found}
use Rattle.table.proofs.read.one_more.Goals as goal

pub returns-in_err-tagged_pair : goal.returns-in_err-tagged_pair
returns-in_err-tagged_pair c = rw (passed_on c.from_residual.result c.from_residual.ensures.1) (more_refused c.args.at c.in_err-tagged_pair.ensures)

pub returns : goal.returns
returns c = more_found c.args.at c.in_ok-tagged_pair.ensures
