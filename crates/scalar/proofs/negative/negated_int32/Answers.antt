use Rattle.scalar.proofs.IntegerLaws.{negated_is}
use Rattle.scalar.proofs.negative.negated_int32.Goals as goal

pub returns : goal.returns
returns c = negated_is 31 c.args.n c.wrapping_neg.result c.ranges.n.fits c.wrapping_neg.type_inv c.wrapping_neg.ensures
