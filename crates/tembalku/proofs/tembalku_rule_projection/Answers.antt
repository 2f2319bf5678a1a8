-- `tembalku_rule_projection`: the columns of a rule, at the front of the buffer where they fit.
use Rattle.std.proofs.Common.{ℕ, List, subst, sym, ◌∙◌}
use Rattle.tembalku.specs.Codes.{Projected}
use Rattle.tembalku.proofs.CodeLaws.{projected_refused, projected_is}
use Rattle.tembalku.proofs.tembalku_rule_projection.Goals as goal

pub returns-in-Ok : goal.returns-in-Ok
returns-in-Ok c = projected_is c.args.rule.now c.projection.ensures c.in-Ok.is c.part_of-named.ensures c.put_part.ensures

pub returns-in-Err : goal.returns-in-Err
returns-in-Err c = subst (λ (n : ℕ). Projected c.args.rule.now c.args.columns.now n c.args.columns.now) (sym (c.from.ensures ∙ c.number.ensures)) (projected_refused c.args.rule.now c.args.columns.now c.projection.ensures c.in-Err.is)
