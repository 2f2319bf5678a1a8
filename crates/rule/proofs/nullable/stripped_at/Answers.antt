use Rattle.rule.proofs.NullableLaws.{stripped_next, stripped_plain, cast_strips, stripped_end, stripped_behind}
use native.Mathlib.Omega.{arith}
use Rattle.rule.proofs.nullable.stripped_at.Goals as goal

pub loop-at-preserved : goal.loop-at-preserved
loop-at-preserved c = stripped_plain c.loop-at.invariant (omega arith) (omega arith)

pub loop-at-preserved-in-21 : goal.loop-at-preserved-in-21
loop-at-preserved-in-21 c = stripped_next c.loop-at.invariant 21 1 cast_strips c.in-21.is (omega arith)

pub returns-in_default : goal.returns-in_default
returns-in_default c = stripped_end c.loop-at.invariant (λ e. omega arith) (λ e. omega arith) (λ e. omega arith)

pub returns-in_default-2 : goal.returns-in_default-2
returns-in_default-2 c = stripped_end c.loop-at.invariant (λ e. omega arith) (λ e. omega arith) (λ e. omega arith)

pub returns : goal.returns
returns c = stripped_behind c.loop-at.invariant c.loop-at-test.false
