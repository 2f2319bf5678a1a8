-- The answer is the reading's refusal, or its nullability answer.
use native.Mathlib.Omega.{arith}
use Rattle.layout.proofs.AnswerLaws.{passed_on}
use Rattle.rule.proofs.AnswerLaws.{nullable_refused, nullable_accepted}
use Rattle.rule.proofs.answer.nullable.Goals as goal

pub returns-in_err-r : goal.returns-in_err-r
returns-in_err-r c = rw (passed_on c.from_residual.result c.from_residual.ensures.1) (nullable_refused c.args.rule.now c.read_rule.ensures c.in_err-r.was)

pub returns : goal.returns
returns c = nullable_accepted c.args.rule.now c.read_rule.ensures (λ i. omega (arith, c.type_inv.rule i)) c.in_ok-r.r c.in_ok-r.was
