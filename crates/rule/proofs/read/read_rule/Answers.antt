-- What an evaluation takes from a rule is what reading it found, and its nullability answer.
use native.Mathlib.Omega.{arith}
use Rattle.layout.proofs.AnswerLaws.{passed_on}
use Rattle.rule.proofs.AnswerLaws.{answer_refused, reading_accepted}
use Rattle.rule.proofs.read.read_rule.Goals as goal

pub returns-in_err-r : goal.returns-in_err-r
returns-in_err-r c = rw (passed_on c.from_residual.result c.from_residual.ensures.1) (answer_refused c.args.rule.now c.read_accepted.ensures _ c.in_err-r.was)

pub returns : goal.returns
returns c = reading_accepted c.args.rule.now c.read_accepted.ensures c.in_ok-r.r c.in_ok-r.was (λ i. omega (arith, c.type_inv.rule i)) c.nullable_of.result c.nullable_of.ensures
