-- Tag 4, by its length.
use Rattle.layout.proofs.AnswerLaws.{passed_on}
use Rattle.table.proofs.PartsLaws.{values_refused, values_taken, values_other}
use Rattle.table.proofs.part.values_part.Goals as goal

pub returns-in_err-values : goal.returns-in_err-values
returns-in_err-values c = rw (passed_on c.from_residual.result c.from_residual.ensures.1) (values_refused c.args.at c.args.size c.in_err-values.ensures)

pub returns-then-values-size : goal.returns-then-values-size
returns-then-values-size c = values_other c.args.at c.args.size c.in_ok-values.ensures c.if-values-size.true

pub returns : goal.returns
returns c = values_taken c.args.at c.args.size c.in_ok-values.ensures c.if-values-size.false
