-- The steps, or none.
use Rattle.case.proofs.CaseValueLaws.{list_small, steps_found, steps_missed}
use Rattle.case.proofs.case_values.case_steps.Goals as goal

pub step_values-requires : goal.step_values-requires
step_values-requires c = list_small c.requires

pub returns-then-step_values : goal.returns-then-step_values
returns-then-step_values c = steps_found c.step_values.ensures c.if-step_values.true

pub returns : goal.returns
returns c = steps_missed
