-- `tembalku_rule_read`: the reading of a rule, as one number.
use Rattle.std.proofs.Common.{ℕ, ◌+◌, refl, ap, ◌∙◌}
use Rattle.rule.specs.Reading.{read_rule}
use Rattle.scalar.specs.Types.{type_number}
use Rattle.rule.specs.Typing.{type_of}
use Rattle.tembalku.specs.Codes.{rule_code}
use Rattle.tembalku.proofs.CodeLaws.{refused_code, answered_code, rule_number}
use Rattle.tembalku.proofs.tembalku_rule_read.Goals as goal

pub returns-in-Ok : goal.returns-in-Ok
returns-in-Ok c = ap (λ (n : ℕ). 256 + n) (c.from.ensures ∙ c.number.ensures) ∙ answered_code type_of rule_code (λ t. 256 + type_number t) (λ e. refl) (read_rule c.args.rule.now) c.read.ensures c.in-Ok.is

pub returns-in-Err : goal.returns-in-Err
returns-in-Err c = c.from-in-Err.ensures ∙ c.number-in-Err.ensures ∙ refused_code type_of rule_code (λ n. refl) (read_rule c.args.rule.now) (rule_number c.args.rule.now) c.read.ensures c.in-Err.is
