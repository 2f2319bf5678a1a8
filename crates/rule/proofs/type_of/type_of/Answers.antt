use mathlib.Core.Path.{refl}
use Rattle.rule.proofs.WalkLaws.{one_of_two}
use Rattle.rule.proofs.TypeOfLaws.{then_onward, type_byte, type_behind, type_another, type_boolean}
use native.Mathlib.Omega.{arith}
use Rattle.rule.proofs.type_of.type_of.Goals as goal
use Rattle.rule.proofs.type_of.type_of.Goals.{in-17-1, in_default+else-this-lt21+then-this-lt23}

pub returns-in-16 : goal.returns-in-16
returns-in-16 c = type_byte _ _ 16 c.loop-at.invariant c.in-16.is refl c.byte_at.ensures c.type_numbered.ensures

pub returns-in-17 : goal.returns-in-17
returns-in-17 c = elim c.in-17-1.branch [ in-17-1 w ↦ type_byte _ _ 17 c.loop-at.invariant (omega arith) refl c.byte_at-in-17.ensures c.type_numbered-in-17.ensures | in_default+else-this-lt21+then-this-lt23 w ↦ one_of_two _ 21 (omega arith) (omega arith) (λ e. type_byte _ _ 21 c.loop-at.invariant e refl c.byte_at-in-17.ensures c.type_numbered-in-17.ensures) (λ e. type_byte _ _ 22 c.loop-at.invariant e refl c.byte_at-in-17.ensures c.type_numbered-in-17.ensures) ]

pub loop-at-preserved-in-19-1 : goal.loop-at-preserved-in-19-1
loop-at-preserved-in-19-1 c = type_another _ _ 19 c.loop-at.invariant c.in-19.is refl refl

pub loop-at-smaller : goal.loop-at-smaller
loop-at-smaller c = omega (arith, then_onward _ (omega arith) c.first_then-at.ensures)

pub loop-at-preserved : goal.loop-at-preserved
loop-at-preserved c = type_another _ _ 25 c.loop-at.invariant c.in-25.is refl c.first_then-at.ensures

pub returns-in_default : goal.returns-in_default
returns-in_default c = type_boolean _ _ c.loop-at.invariant (λ e. omega arith) (λ e. omega arith) (λ e. omega arith) (λ e. omega arith) (λ e. omega arith) (λ e. omega arith)

pub returns-in_default-2 : goal.returns-in_default-2
returns-in_default-2 c = type_boolean _ _ c.loop-at.invariant (λ e. omega arith) (λ e. omega arith) (λ e. omega arith) (λ e. omega arith) (λ e. omega arith) (λ e. omega arith)

pub returns : goal.returns
returns c = type_behind _ c.loop-at.invariant c.loop-at-test.false
