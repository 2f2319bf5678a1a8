-- A cast by the value's kind.
use Rattle.std.proofs.Common.{◌∙◌, rules}
use Rattle.scalar.proofs.CastLaws.{float_cast, nan_cast, text_cast, none_cast}
use Rattle.case.proofs.casting.cast_at.Goals as goal

pub returns-in-Float64 : goal.returns-in-Float64
returns-in-Float64 c = rw c.in-Float64.is (c.from_float.ensures ∙ float_cast _ _ c.float_bits.ensures)

pub returns-in-Nan : goal.returns-in-Nan
returns-in-Nan c = rw c.in-Nan.is (c.from_float-in-Nan.ensures ∙ nan_cast _ _)

pub returns-in-RuleText : goal.returns-in-RuleText
returns-in-RuleText c = c.kept_text.ensures ∙ text_cast c.args.to c.args.v (search rules)

pub returns-in_default : goal.returns-in_default
returns-in_default c = none_cast c.args.to c.args.v (search rules)
