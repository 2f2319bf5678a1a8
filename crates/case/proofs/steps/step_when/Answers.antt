-- The table has the column of the WHEN, and the rows have their indices by it; or no row has one.
use Rattle.case.proofs.StepLaws.{when_refused, when_gives}
use Rattle.case.proofs.steps.step_when.Goals as goal

pub returns-then-not-asked : goal.returns-then-not-asked
returns-then-not-asked c = when_refused

pub returns-in_default : goal.returns-in_default
returns-in_default c = when_refused

pub returns-in_default-column : goal.returns-in_default-column
returns-in_default-column c = when_refused

pub returns : goal.returns
returns c = when_gives c.if-not-asked.false c.in-Some.ensures c.in-Some-column.ensures c.column_step.ensures
