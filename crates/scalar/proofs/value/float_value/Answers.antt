-- A float by its bits: a NaN's bits are those above the infinity's, the sign aside.
use lib.Ieee.Bits.{nan_bits_above}
use Rattle.std.proofs.Common.{le-ltb, lt-ltb}
use Rattle.scalar.proofs.value.float_value.Goals as goal

pub float_from_bits-result : goal.float_from_bits-result
float_from_bits-result c = simp (nan_bits_above, le-ltb _ _ c.if-bits-gt9218868437227405312.false) tt

pub returns-then-bits-gt9218868437227405312 : goal.returns-then-bits-gt9218868437227405312
returns-then-bits-gt9218868437227405312 c = simp (nan_bits_above, lt-ltb _ _ c.if-bits-gt9218868437227405312.true)

pub returns-else-bits-gt9218868437227405312 : goal.returns-else-bits-gt9218868437227405312
returns-else-bits-gt9218868437227405312 c = simp (nan_bits_above, le-ltb _ _ c.if-bits-gt9218868437227405312.false)
