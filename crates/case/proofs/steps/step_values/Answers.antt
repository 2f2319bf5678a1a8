-- The table has the column of the first WHEN, and the rows have their indices by it; or no row has one.
use Rattle.case.proofs.StepLaws.{table_refused_lem, table_gives}
use Rattle.case.proofs.steps.step_values.Goals as goal

pub returns-in_default : goal.returns-in_default
returns-in_default c = table_refused_lem

pub returns-in_default-column : goal.returns-in_default-column
returns-in_default-column c = table_refused_lem

pub returns : goal.returns
returns c = table_gives c.in-Some-column.ensures c.column_steps.ensures
