-- `root_results` has the results, and the place of the branches where they serve.
use Rattle.std.proofs.Common.{◌∙◌}
use Rattle.case.proofs.RootLaws.{results_give}
use Rattle.rule.proofs.TypeOfLaws.{type_gives}
use Rattle.case.proofs.root.root_results.Goals as goal

pub returns-then-may_class : goal.returns-then-may_class
returns-then-may_class c = results_give c.byte_at-count.ensures (type_gives c.type_of.ensures) c.read.ensures (c.if-results-count.false ∙ c.number.ensures)
