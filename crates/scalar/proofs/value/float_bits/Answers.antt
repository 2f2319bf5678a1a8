-- The bits of a float.
use Rattle.std.proofs.Common.{sym, ◌∙◌}
use Rattle.scalar.proofs.FloatLaws.{nan_bits_lem, no_nan}
use Rattle.scalar.proofs.value.float_bits.Goals as goal

pub float_to_bits-result : goal.float_to_bits-result
float_to_bits-result c = no_nan c.args.f (sym c.is_nan.ensures.value ∙ c.if-is_nan.false)

pub returns-then-is_nan : goal.returns-then-is_nan
returns-then-is_nan c = nan_bits_lem c.args.f (sym c.is_nan.ensures.value ∙ c.if-is_nan.true)
