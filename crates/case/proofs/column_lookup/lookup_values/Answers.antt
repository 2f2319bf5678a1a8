-- The table has the column of the base, and the rows have their indices by it; or no row has one.
use Rattle.std.proofs.Common.{arith}
use Rattle.case.proofs.LookUpColumnLaws.{keyed_refused, keyed_gives}
use Rattle.case.proofs.StepLaws.{tag_inside}
use Rattle.rule.proofs.WalkLaws.{end_gives}
use Rattle.case.proofs.column_lookup.lookup_values.Goals as goal

pub returns-then-byte_at-ne-COLUMN : goal.returns-then-byte_at-ne-COLUMN
returns-then-byte_at-ne-COLUMN c = keyed_refused

pub overflow_add-at : goal.overflow_add-at
overflow_add-at c = omega (arith, tag_inside c.args.rule.now c.args.at c.byte_at.result c.byte_at.ensures c.if-byte_at-ne-COLUMN.false)

pub returns-in_default : goal.returns-in_default
returns-in_default c = keyed_refused

pub returns-then-count-gt-BRANCHES_MOST : goal.returns-then-count-gt-BRANCHES_MOST
returns-then-count-gt-BRANCHES_MOST c = keyed_refused

pub returns : goal.returns
returns c = keyed_gives c.byte_at.ensures c.if-byte_at-ne-COLUMN.false c.byte_at-column.ensures c.in-Some.ensures (end_gives c.field_end-first.ensures) c.base_values.ensures
