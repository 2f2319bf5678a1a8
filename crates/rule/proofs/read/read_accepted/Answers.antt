-- A rule is its tree, and none of its constant casts fails.
use native.Mathlib.Omega.{arith}
use Rattle.layout.proofs.AnswerLaws.{passed_on}
use Rattle.rule.proofs.AnswerLaws.{rule_unread, rule_fails, rule_read}
use Rattle.rule.proofs.read.read_accepted.Goals as goal

pub returns-in_err-r : goal.returns-in_err-r
returns-in_err-r c = rw (passed_on c.from_residual.result c.from_residual.ensures.1) (rule_unread c.args.rule.now c.read_tree.ensures c.in_err-r.was)

pub returns-then-constant_fails : goal.returns-then-constant_fails
returns-then-constant_fails c = rule_fails c.args.rule.now c.read_tree.ensures c.in_ok-r.r c.in_ok-r.was (λ i. omega (arith, c.type_inv.rule i)) c.constant_fails.result c.constant_fails.ensures c.if-constant_fails.true

pub returns : goal.returns
returns c = rule_read c.args.rule.now c.read_tree.ensures c.in_ok-r.r c.in_ok-r.was (λ i. omega (arith, c.type_inv.rule i)) c.constant_fails.result c.constant_fails.ensures c.if-constant_fails.false
