use mathlib.Core.Path.{◌∙◌}
use native.Mathlib.Omega.{arith}
use Rattle.rule.proofs.WalkLaws.{behind_next, behind_none}
use Rattle.rule.proofs.walk.behind_fields.Goals as goal

pub loop-preserved : goal.loop-preserved
loop-preserved c = behind_next _ _ (omega arith) c.field_end-place.ensures ∙ c.loop.invariant

pub returns : goal.returns
returns c = behind_none _ (omega arith) ∙ c.loop.invariant
