-- The field of a tag that has two bytes, else 9.
use Rattle.layout.proofs.AnswerLaws.{passed_on}
use Rattle.table.proofs.PartsLaws.{pair_refused, pair_two, pair_other}
use Rattle.table.proofs.part.tagged_pair.Goals as goal

pub returns-in_err-pair : goal.returns-in_err-pair
returns-in_err-pair c = rw (passed_on c.from_residual.result c.from_residual.ensures.1) (pair_refused c.args.at c.in_err-pair.ensures)

pub returns-then-pair-ne2 : goal.returns-then-pair-ne2
returns-then-pair-ne2 c = pair_other c.args.at c.in_ok-pair.ensures c.if-pair-ne2.true

pub returns : goal.returns
returns c = pair_two c.args.at c.in_ok-pair.ensures c.if-pair-ne2.false
