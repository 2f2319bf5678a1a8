-- The steps are read, and each row has its index; or no row has one.
use Rattle.std.proofs.Common.{rules}
use Rattle.case.proofs.StepLaws.{number_low, column_refused}
use Rattle.case.proofs.SpanLaws.{column_by}
use Rattle.case.proofs.steps.column_steps.Goals as goal

pub returns-then-count-gt-BRANCHES_MOST : goal.returns-then-count-gt-BRANCHES_MOST
returns-then-count-gt-BRANCHES_MOST c = column_refused

pub returns-then-eq : goal.returns-then-eq
returns-then-eq c = column_refused

pub returns-in_default : goal.returns-in_default
returns-in_default c = column_refused

pub returns : goal.returns
returns c = column_by {table = c.args.table.now} {place = c.args.place} c.number-code.ensures (number_low c.args.place.data_type c.number-code.ensures (λ e. search rules)) c.index_column.ensures c.in-Some.ensures.1 c.in-Some.ensures.0
