-- `tembalku_evaluate`: the evaluation's answer, as one number.
use Rattle.std.proofs.Common.{ℕ, sym, subst, ◌∙◌}
use native.Mathlib.Omega.{arith}
use Rattle.tembalku.specs.Codes.{Called}
use Rattle.tembalku.proofs.CodeLaws.{answer_fits, called_answered, called_refused}
use Rattle.tembalku.proofs.tembalku_evaluate.Goals as goal

pub overflow_add-result : goal.overflow_add-result
overflow_add-result c = let k = answer_fits c.evaluate.ensures c.in-Ok.is in omega (arith)

pub returns-in-Ok : goal.returns-in-Ok
returns-in-Ok c = called_answered c.evaluate.ensures c.in-Ok.is

pub returns-in-Err : goal.returns-in-Err
returns-in-Err c = subst (λ (n : ℕ). Called c.args.rule.now c.args.table.now c.args.work.now c.args.output.now n c.evaluate.new.work c.evaluate.new.output) (sym (c.from.ensures ∙ c.number.ensures)) (called_refused c.evaluate.ensures c.in-Err.is)
