-- `apply` by the operation: a cast, a try-cast, or none.
use Rattle.case.proofs.CastingLaws.{filled_by}
use Rattle.case.proofs.rows.apply.Goals as goal

pub returns-in-Cast : goal.returns-in-Cast
returns-in-Cast c = filled_by c.in-Cast.is c.cast_rows.ensures

pub returns-in-TryCast : goal.returns-in-TryCast
returns-in-TryCast c = filled_by c.in-TryCast.is c.cast_rows-in-TryCast.ensures

pub returns-in_default : goal.returns-in_default
returns-in_default c = c.apply_castless.ensures
