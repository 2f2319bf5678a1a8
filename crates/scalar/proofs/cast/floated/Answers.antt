-- An Int64 as a float: a negative one is its magnitude's float, negated.
use Rattle.std.proofs.Common.{ap, ◌∙◌, arith}
use lib.Ieee.{neg}
use Rattle.scalar.proofs.FloatLaws.{floated_high}
use Rattle.scalar.proofs.cast.floated.Goals as goal

pub returns-else-n-lt9223372036854775808 : goal.returns-else-n-lt9223372036854775808
returns-else-n-lt9223372036854775808 c = ap neg c.nearest_u64_to_f64-else-n-lt9223372036854775808.ensures ∙ floated_high 63 c.args.n _ (omega arith) (omega arith) (omega arith)
