-- `truncate_floats` by the type.
use Rattle.case.proofs.CastingLaws.{none_cast, cast_by}
use Rattle.case.proofs.casting.truncate_floats.Goals as goal

pub returns-then-tried : goal.returns-then-tried
returns-then-tried c = cast_by c.in-Int32.is c.if-tried.true c.truncate_rows.ensures

pub returns-else-tried : goal.returns-else-tried
returns-else-tried c = cast_by c.in-Int32.is c.if-tried.false c.truncate_rows-else-tried.ensures

pub returns-then-tried-2 : goal.returns-then-tried-2
returns-then-tried-2 c = cast_by c.in-Int64.is c.if-tried-2.true c.truncate_rows-then-tried-2.ensures

pub returns-else-tried-2 : goal.returns-else-tried-2
returns-else-tried-2 c = cast_by c.in-Int64.is c.if-tried-2.false c.truncate_rows-else-tried-2.ensures

pub returns-in_default : goal.returns-in_default
returns-in_default c = none_cast
