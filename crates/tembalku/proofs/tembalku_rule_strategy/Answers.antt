-- `tembalku_rule_strategy`: the strategy of a rule, as one number.
use Rattle.std.proofs.Common.{ℕ, ◌+◌, refl, ap, ◌∙◌}
use Rattle.rule.specs.Reading.{read_rule}
use Rattle.rule.specs.Strategy.{strategy, strategy_number}
use Rattle.tembalku.specs.Codes.{strategy_code}
use Rattle.tembalku.proofs.CodeLaws.{refused_code, answered_code, rule_number}
use Rattle.tembalku.proofs.tembalku_rule_strategy.Goals as goal

pub returns-in-Ok : goal.returns-in-Ok
returns-in-Ok c = ap (λ (n : ℕ). 256 + n) (c.from.ensures ∙ c.number.ensures) ∙ answered_code strategy strategy_code (λ s. 256 + strategy_number s) (λ e. refl) (read_rule c.args.rule.now) c.strategy.ensures c.in-Ok.is

pub returns-in-Err : goal.returns-in-Err
returns-in-Err c = c.from-in-Err.ensures ∙ c.number-in-Err.ensures ∙ refused_code strategy strategy_code (λ n. refl) (read_rule c.args.rule.now) (rule_number c.args.rule.now) c.strategy.ensures c.in-Err.is
