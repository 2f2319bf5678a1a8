-- The answer is the reading's refusal, or the strategy of the rule that stands in the bytes.
use native.Mathlib.Omega.{arith}
use Rattle.layout.proofs.AnswerLaws.{passed_on}
use Rattle.rule.proofs.AnswerLaws.{answer_refused, strategy_answer_lem}
use Rattle.rule.proofs.StrategyLaws.{strategy_gives}
use Rattle.rule.proofs.answer.strategy.Goals as goal

pub returns-in_err-read_accepted : goal.returns-in_err-read_accepted
returns-in_err-read_accepted c = rw (passed_on c.from_residual.result c.from_residual.ensures.1) (answer_refused c.args.rule.now c.read_accepted.ensures _ c.in_err-read_accepted.was)

pub returns : goal.returns
returns c = strategy_answer_lem c.args.rule.now c.read_accepted.ensures c.in_ok-read_accepted.field-0 c.in_ok-read_accepted.was (λ i. omega (arith, c.type_inv.rule i)) c.strategy_at.result (strategy_gives c.strategy_at.ensures)
