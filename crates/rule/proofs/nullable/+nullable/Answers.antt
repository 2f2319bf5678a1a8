-- The cycle of calls that tells whether a node is nullable. The measure is eight times the depth that is left, and how far a call is from the
-- next node. The loops' invariants: the trees, or the branches, that are left stand at the place, and one of them is nullable if one of all is.
use borrow.Author.Rules.{rules}
use native.Mathlib.Omega.{arith}
use Rattle.rule.proofs.NullableLaws.{any_outside, AnyLeft, any_start, any_found, any_next, any_end, branch_never, branch_base, branch_when, NullableLeft, thens_start, thens_found, thens_next, thens_absent, thens_fails, thens_else, case_nullable, case_outside, nullable_none, nullable_behind, nullable_column, nullable_literal, nullable_is_not_null, nullable_try_cast, nullable_children}
use Rattle.rule.proofs.WalkLaws.{behind_gives, children_gives, end_gives}
use Rattle.rule.proofs.NullableLaws as laws
use Rattle.rule.proofs.nullable.+nullable.Goals as goal

pub nullable_any-returns-then-null : goal.nullable_any-returns-then-null
nullable_any-returns-then-null t c = any_found c.loop-at.invariant c.loop-at-test.true (end_gives c.field_end-next.ensures) c.nullable_node-null.ensures c.if-null.true

pub nullable_any-loop-at-smaller : goal.nullable_any-loop-at-smaller
nullable_any-loop-at-smaller t c = omega (arith, (end_gives c.field_end-next.ensures).farther (omega arith))

pub nullable_any-loop-at-preserved : goal.nullable_any-loop-at-preserved
nullable_any-loop-at-preserved t c = any_next c.loop-at.invariant c.loop-at-test.true (end_gives c.field_end-next.ensures) c.nullable_node-null.ensures c.if-null.false

pub nullable_any-returns : goal.nullable_any-returns
nullable_any-returns t c = any_end c.loop-at.invariant c.loop-at-test.false

pub nullable_branches-returns-then-null : goal.nullable_branches-returns-then-null
nullable_branches-returns-then-null t c = thens_found c.loop.invariant (omega arith) (end_gives c.field_end-then.ensures) (end_gives c.field_end-next.ensures) c.nullable_branch-null.ensures c.if-null.true

pub nullable_branches-loop-preserved : goal.nullable_branches-loop-preserved
nullable_branches-loop-preserved t c = thens_next c.loop.invariant (omega arith) (end_gives c.field_end-then.ensures) (end_gives c.field_end-next.ensures) c.nullable_branch-null.ensures (omega arith) c.if-null.false

pub nullable_branches-returns-then-place-end : goal.nullable_branches-returns-then-place-end
nullable_branches-returns-then-place-end t c = thens_absent c.loop.invariant (omega arith) c.if-place-end.true

pub nullable_branches-returns-then-fails : goal.nullable_branches-returns-then-fails
nullable_branches-returns-then-fails t c = thens_fails c.loop.invariant (omega arith) c.if-place-end.false c.else_can_fail-fails.ensures c.if-fails.true

pub nullable_branches-returns : goal.nullable_branches-returns
nullable_branches-returns t c = thens_else c.loop.invariant (omega arith) c.if-place-end.false c.else_can_fail-fails.ensures c.if-fails.false c.nullable_node.ensures

pub nullable_case-returns-then-rule-start : goal.nullable_case-returns-then-rule-start
nullable_case-returns-then-rule-start t c = case_outside c.if-rule-start.true

pub nullable_case-returns : goal.nullable_case-returns
nullable_case-returns t c = case_nullable c.byte_at-base.ensures c.byte_at-count.ensures (behind_gives c.behind_fields-at.ensures) c.nullable_branches.ensures

pub nullable_node-returns-then-depth-eq0 : goal.nullable_node-returns-then-depth-eq0
nullable_node-returns-then-depth-eq0 t c = nullable_none (omega arith)

pub nullable_node-returns-then-rule-start : goal.nullable_node-returns-then-rule-start
nullable_node-returns-then-rule-start t c = nullable_behind c.if-rule-start.true

pub nullable_node-returns-in-16 : goal.nullable_node-returns-in-16
nullable_node-returns-in-16 t c = nullable_column c.in-16.is c.byte_at.ensures

pub nullable_node-returns-in-17 : goal.nullable_node-returns-in-17
nullable_node-returns-in-17 t c = nullable_literal c.in-17.is c.byte_at-in-17.ensures

pub nullable_node-returns-in-20 : goal.nullable_node-returns-in-20
nullable_node-returns-in-20 t c = nullable_is_not_null c.in-20.is

pub nullable_node-returns-in-22 : goal.nullable_node-returns-in-22
nullable_node-returns-in-22 t c = nullable_try_cast c.in-22.is

pub nullable_node-returns-in-25 : goal.nullable_node-returns-in-25
nullable_node-returns-in-25 t c = laws.nullable_case_lem (omega arith) c.in-25.is c.nullable_case.ensures

pub nullable_node-returns-in_default : goal.nullable_node-returns-in_default
nullable_node-returns-in_default t c = nullable_children (search rules) (children_gives c.children_at.ensures) c.nullable_any.ensures
