-- `tembalku_rule_nullable`: whether the answer of a rule is marked nullable, as one number.
use Rattle.std.proofs.Common.{ℕ, ◌+◌, refl, ap, ◌∙◌}
use Rattle.rule.specs.Reading.{read_rule}
use Rattle.scalar.specs.Types.{mark_number}
use Rattle.scalar.proofs.TypeLaws.{boolean_mark}
use Rattle.rule.specs.Nullable.{nullable}
use Rattle.tembalku.specs.Codes.{nullable_code}
use Rattle.tembalku.proofs.CodeLaws.{refused_code, answered_code, rule_number}
use Rattle.tembalku.proofs.tembalku_rule_nullable.Goals as goal

pub returns-in-Ok : goal.returns-in-Ok
returns-in-Ok c = ap (λ (n : ℕ). 256 + n) (c.from.ensures ∙ boolean_mark c.in-Ok.mark) ∙ answered_code nullable nullable_code (λ b. 256 + mark_number b) (λ e. refl) (read_rule c.args.rule.now) c.nullable.ensures c.in-Ok.is

pub returns-in-Err : goal.returns-in-Err
returns-in-Err c = c.from-in-Err.ensures ∙ c.number.ensures ∙ refused_code nullable nullable_code (λ n. refl) (read_rule c.args.rule.now) (rule_number c.args.rule.now) c.nullable.ensures c.in-Err.is
