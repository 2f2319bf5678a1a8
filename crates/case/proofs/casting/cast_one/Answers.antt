-- `cast_one` is the cast, or the try-cast; what has failed stays so.
use Rattle.std.proofs.Common.{rules}
use Rattle.case.proofs.CastingLaws.{failed_right, value_cast, value_tried}
use Rattle.case.proofs.casting.cast_one.Goals as goal

pub returns-in-Failed : goal.returns-in-Failed
returns-in-Failed c = failed_right c.args.tried c.args.to c.in-Failed.is

pub returns-then-tried : goal.returns-then-tried
returns-then-tried c = value_tried _ c.args.to c.args.v c.if-tried.true (search rules) c.cast_at-r.ensures c.or_null.ensures

pub returns : goal.returns
returns c = value_cast _ c.args.to c.args.v c.if-tried.false c.cast_at-r.ensures
