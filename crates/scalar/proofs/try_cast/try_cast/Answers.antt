-- A try-cast is the cast where it fits.
use borrow.Author.Rules.{rules}
use Rattle.scalar.proofs.OperationLaws.{try_failed, try_null, try_entry}
use Rattle.scalar.proofs.try_cast.try_cast.Goals as goal

pub returns-in-Failed : goal.returns-in-Failed
returns-in-Failed c = try_failed c.args.to c.in-Failed.is

pub returns-in-Failed-cast : goal.returns-in-Failed-cast
returns-in-Failed-cast c = try_null c.args.to c.args.v (search rules) c.in-Failed-cast.is c.cast.ensures

pub returns-in_default-cast : goal.returns-in_default-cast
returns-in_default-cast c = try_entry c.args.to c.args.v (search rules) (search rules) c.cast.ensures
