-- `truncated` is the cast by the bits, or the try-cast.
use Rattle.case.proofs.CastingLaws.{cast_right, try_right}
use Rattle.case.proofs.casting.truncated.Goals as goal

pub returns-then-tried : goal.returns-then-tried
returns-then-tried c = try_right c.args.short _ c.args.bits c.if-tried.true c.ranges.bits.fits c.integer_of-v.ensures c.or_null.ensures

pub returns : goal.returns
returns c = cast_right c.args.short _ c.args.bits c.if-tried.false c.ranges.bits.fits c.integer_of-v.ensures
