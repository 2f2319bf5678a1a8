-- Each row has its index by the one step; or no row has one.
use Rattle.std.proofs.Common.{rules}
use Rattle.case.proofs.StepLaws.{number_low, step_refused}
use Rattle.case.proofs.SpanLaws.{step_by}
use Rattle.case.proofs.steps.column_step.Goals as goal

pub returns-then-eq : goal.returns-then-eq
returns-then-eq c = step_refused

pub returns-then-s-code : goal.returns-then-s-code
returns-then-s-code c = step_refused

pub returns : goal.returns
returns c = step_by {table = c.args.table.now} {place = c.args.place} c.number-code.ensures (number_low c.args.place.data_type c.number-code.ensures (λ e. search rules)) c.index_column.ensures c.one.ensures.0 c.one.ensures.1 c.if-s-code.false
