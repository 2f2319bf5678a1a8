use native.Mathlib.Omega.{arith}
use Rattle.rule.proofs.StrategyLaws.{whens_found, whens_next, whens_end}
use Rattle.rule.proofs.strategy.some_when.Goals as goal

pub returns-then-not-null : goal.returns-then-not-null
returns-then-not-null c = whens_found _ _ c.loop.invariant (omega arith) c.is_null_literal-null.ensures c.if-not-null.true

pub loop-preserved : goal.loop-preserved
loop-preserved c = whens_next _ _ c.loop.invariant (omega arith) c.is_null_literal-null.ensures c.if-not-null.false c.behind_fields-place.ensures

pub returns : goal.returns
returns c = whens_end _ _ c.loop.invariant (omega arith)
