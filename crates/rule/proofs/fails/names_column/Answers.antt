use native.Mathlib.Omega.{arith}
use Rattle.rule.proofs.FailsLaws.{columns_start, columns_found, columns_next, columns_end_lem}
use Rattle.rule.proofs.WalkLaws.{children_gives}
use Rattle.rule.proofs.fails.names_column.Goals as goal

pub loop-at-init : goal.loop-at-init
loop-at-init c = columns_start

pub returns-then-rule-at-eq-COLUMN : goal.returns-then-rule-at-eq-COLUMN
returns-then-rule-at-eq-COLUMN c = columns_found c.loop-at.invariant c.loop-at-test.true c.if-rule-at-eq-COLUMN.true

pub loop-at-smaller : goal.loop-at-smaller
loop-at-smaller c = omega (arith, (children_gives c.children_at-at.ensures).farther (omega arith))

pub loop-at-preserved : goal.loop-at-preserved
loop-at-preserved c = columns_next c.loop-at.invariant c.loop-at-test.true c.if-rule-at-eq-COLUMN.false (children_gives c.children_at-at.ensures)

pub returns : goal.returns
returns c = columns_end_lem c.loop-at.invariant c.loop-at-test.false
