-- The answer is the reading's refusal, or the indexes of the columns met.
use Rattle.layout.proofs.AnswerLaws.{passed_on}
use Rattle.rule.proofs.AnswerLaws.{answer_refused, projection_answer_lem}
use Rattle.rule.proofs.answer.projection.Goals as goal

pub returns-in_err-r : goal.returns-in_err-r
returns-in_err-r c = rw (passed_on c.from_residual.result c.from_residual.ensures.1) (answer_refused c.args.rule.now c.read_accepted.ensures _ c.in_err-r.was)

pub returns : goal.returns
returns c = projection_answer_lem c.args.rule.now c.read_accepted.ensures c.in_ok-r.r c.in_ok-r.was c.projected.result c.projected.ensures
