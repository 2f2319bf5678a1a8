-- A refusal of either reading touches nothing; else what was read is evaluated.
use Rattle.std.proofs.Common.{sym, ◌∙◌, arith}
use Rattle.layout.proofs.AnswerLaws.{passed_on}
use Rattle.table.proofs.StandLaws.{table_read}
use Rattle.case.proofs.EvaluateLaws.{rule_refused, table_refused_lem, both_read}
use Rattle.case.proofs.evaluate.evaluate.Goals as goal

pub returns-in_err-r : goal.returns-in_err-r
returns-in_err-r c = rw (passed_on c.from_residual.result c.from_residual.ensures.1) (rule_refused (sym c.in_err-r.was ∙ c.read_rule.ensures))

pub returns-in_err-t : goal.returns-in_err-t
returns-in_err-t c = rw (passed_on c.from_residual-in_err-t.result c.from_residual-in_err-t.ensures.1) (table_refused_lem (λ i. omega (arith, c.type_inv.rule i)) (sym c.in_ok-r.was ∙ c.read_rule.ensures) (sym c.in_err-t.was ∙ c.read.ensures))

pub evaluate_read-requires : goal.evaluate_read-requires
evaluate_read-requires c = both_read (λ i. omega (arith, c.type_inv.rule i)) (sym c.in_ok-r.was ∙ c.read_rule.ensures) (table_read (sym c.in_ok-t.was ∙ c.read.ensures))
