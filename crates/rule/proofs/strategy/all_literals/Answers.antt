use native.Mathlib.Omega.{arith}
use Rattle.rule.proofs.StrategyLaws.{literals_found, literals_next, literals_end}
use Rattle.rule.proofs.strategy.all_literals.Goals as goal

pub returns-then-byte_at-ne-LITERAL : goal.returns-then-byte_at-ne-LITERAL
returns-then-byte_at-ne-LITERAL c = literals_found _ _ c.loop.invariant (omega arith) c.byte_at.ensures c.if-byte_at-ne-LITERAL.true

pub loop-preserved : goal.loop-preserved
loop-preserved c = literals_next _ _ c.loop.invariant (omega arith) c.byte_at.ensures c.if-byte_at-ne-LITERAL.false c.field_end-place.ensures

pub returns : goal.returns
returns c = literals_end _ _ c.loop.invariant (omega arith)
