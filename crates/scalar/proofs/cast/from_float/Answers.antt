-- A float as each type.
use borrow.Author.Rules.{rules}
use Rattle.scalar.proofs.CastLaws.{float_lost}
use Rattle.scalar.proofs.cast.from_float.Goals as goal

pub returns-in_default : goal.returns-in_default
returns-in_default c = float_lost c.args.to c.args.v c.args.bits (search rules)
