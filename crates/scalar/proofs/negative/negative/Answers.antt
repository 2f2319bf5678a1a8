-- Negative, arm by arm.
use Rattle.std.proofs.Common.{ℕ, [], ap, ◌∙◌}
use Rattle.scalar.specs.declared.value.Value.{Value}
use Rattle.scalar.specs.Entry.{float64, Outcome, entry, on_entry}
use Rattle.scalar.specs.Float.{sign_turned}
use Rattle.scalar.specs.Negative.{negative_entry}
use Rattle.scalar.specs.Value.{meaning, float_value, on_value}
use Rattle.scalar.proofs.FloatLaws.{float_means}
use Rattle.scalar.proofs.OperationLaws.{value_at_lem}
use Rattle.scalar.proofs.negative.negative.Goals as goal

abbrev negative_value : Value → Value
negative_value = on_value (λ e. entry (negative_entry e))

abbrev negative_meaning : Value → Outcome
negative_meaning v = on_entry (λ e. entry (negative_entry e)) (meaning [] [] v)

pub returns-in-Float64 : goal.returns-in-Float64
returns-in-Float64 c = (value_at_lem negative_value c.in-Float64.is (c.float_value.ensures ∙ ap float_value (c.sign_turned.ensures ∙ ap (sign_turned 63) c.float_bits.ensures)), value_at_lem negative_meaning c.in-Float64.is (ap (meaning [] []) c.float_value.ensures ∙ float_means c.sign_turned.result c.sign_turned.type_inv [] [] ∙ ap (λ (n : ℕ). entry (float64 n)) (c.sign_turned.ensures ∙ ap (sign_turned 63) c.float_bits.ensures)))

pub returns-in-Nan : goal.returns-in-Nan
returns-in-Nan c = (value_at_lem negative_value c.in-Nan.is (c.float_value-in-Nan.ensures ∙ ap float_value c.sign_turned-in-Nan.ensures), value_at_lem negative_meaning c.in-Nan.is (ap (meaning [] []) c.float_value-in-Nan.ensures ∙ float_means c.sign_turned-in-Nan.result c.sign_turned-in-Nan.type_inv [] [] ∙ ap (λ (n : ℕ). entry (float64 n)) c.sign_turned-in-Nan.ensures))
