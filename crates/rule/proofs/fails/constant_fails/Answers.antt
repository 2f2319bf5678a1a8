use Rattle.rule.proofs.FailsLaws.{fails_start, fails_found, fails_next, fails_end}
use native.Mathlib.Omega.{arith}
use Rattle.rule.proofs.WalkLaws.{children_gives}
use Rattle.rule.proofs.fails.constant_fails.Goals as goal

pub loop-at-init : goal.loop-at-init
loop-at-init c = fails_start

pub returns-then-fails_here : goal.returns-then-fails_here
returns-then-fails_here c = fails_found c.loop-at.invariant c.loop-at-test.true c.fails_here.ensures c.if-fails_here.true

pub loop-at-smaller : goal.loop-at-smaller
loop-at-smaller c = omega (arith, (children_gives c.children_at-at.ensures).farther c.loop-at-test.true)

pub loop-at-preserved : goal.loop-at-preserved
loop-at-preserved c = fails_next c.loop-at.invariant c.loop-at-test.true c.fails_here.ensures c.if-fails_here.false (children_gives c.children_at-at.ensures)

pub returns : goal.returns
returns c = fails_end c.loop-at.invariant c.loop-at-test.false
