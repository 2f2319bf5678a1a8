-- The cycle of calls that works out a node without reading a column. The measure is eight times the depth that is left, and how far a call is
-- from the next node. The loop's invariant: the branches that are left stand at the place and give what all give.
use borrow.Author.Rules.{rules}
use mathlib.Core.Path.{refl, ap}
use native.Mathlib.Omega.{arith}
use Rattle.scalar.proofs.CompareLaws.{equal_both}
use Rattle.scalar.proofs.OperationLaws.{try_cast_gives}
use Rattle.scalar.specs.Value.{kind_of}
use Rattle.rule.proofs.ConstantNode.{within_column, within_none, within_literal, within_case, within_one, within_two, constant_same, constant_other, constant_none, within_behind}
use Rattle.rule.proofs.ConstantCase.{base_none, base_some, else_none, else_some, with_failed, with_null, with_value, branches_next, branches_failed, branches_then, branches_end, case_gives, case_behind, some_value, fit_value}
use Rattle.rule.proofs.LiteralLaws.{literal_gives}
use Rattle.rule.proofs.WalkLaws.{behind_gives, children_gives, end_gives}
use Rattle.rule.proofs.TypeOfLaws.{type_gives}
use Rattle.rule.proofs.constant.+constant.Goals as goal

pub constant-returns-then-depth-eq0 : goal.constant-returns-then-depth-eq0
constant-returns-then-depth-eq0 t c = constant_none (omega arith)

pub constant-returns-then-same : goal.constant-returns-then-same
constant-returns-then-same t c = constant_same c.part_of.ensures c.same_bytes-same.ensures c.if-same.true

pub constant-returns : goal.constant-returns
constant-returns t c = constant_other c.part_of.ensures c.same_bytes-same.ensures c.if-same.false (omega arith) c.constant_node.ensures

pub constant_base-returns-then-at-end : goal.constant_base-returns-then-at-end
constant_base-returns-then-at-end t c = base_none c.if-at-end.true

pub constant_base-returns : goal.constant_base-returns
constant_base-returns t c = base_some c.if-at-end.false c.constant.ensures

pub constant_branches-returns-in-Failed : goal.constant_branches-returns-in-Failed
constant_branches-returns-in-Failed t c = branches_failed c.loop.invariant (omega arith) (end_gives c.field_end-then.ensures) (end_gives c.field_end-next.ensures) c.constant-when.ensures (equal_both c.equal-test.ensures) (ap kind_of c.in-Failed.is)

pub constant_branches-returns-then-passed : goal.constant_branches-returns-then-passed
constant_branches-returns-then-passed t c = branches_then c.loop.invariant (omega arith) (end_gives c.field_end-then.ensures) (end_gives c.field_end-next.ensures) c.constant-when.ensures (equal_both c.equal-test.ensures) c.may_pass-passed.ensures c.if-passed.true (fit_value c.equal-test.result (search rules)) c.constant.ensures

pub constant_branches-loop-preserved : goal.constant_branches-loop-preserved
constant_branches-loop-preserved t c = branches_next c.loop.invariant (omega arith) (end_gives c.field_end-then.ensures) (end_gives c.field_end-next.ensures) c.constant-when.ensures (equal_both c.equal-test.ensures) (omega arith) c.may_pass-passed.ensures c.if-passed.false

pub constant_branches-returns : goal.constant_branches-returns
constant_branches-returns t c = branches_end c.loop.invariant (omega arith) c.constant_else.ensures

pub constant_case-returns-then-rule-start : goal.constant_case-returns-then-rule-start
constant_case-returns-then-rule-start t c = case_behind c.if-rule-start.true

pub constant_case-returns : goal.constant_case-returns
constant_case-returns t c = case_gives c.byte_at-flags.ensures c.byte_at-count.ensures (children_gives c.children_at-at.ensures) (behind_gives c.behind_fields-first.ensures) c.constant_base-base.ensures (type_gives c.type_of.ensures) c.constant_with.ensures

pub constant_else-returns-then-at-branches : goal.constant_else-returns-then-at-branches
constant_else-returns-then-at-branches t c = else_none c.if-at-branches.true

pub constant_else-returns : goal.constant_else-returns
constant_else-returns t c = else_some c.if-at-branches.false c.constant-v.ensures (try_cast_gives _ _ c.try_cast.ensures)

pub constant_node-returns-then-rule-start : goal.constant_node-returns-then-rule-start
constant_node-returns-then-rule-start t c = within_behind c.if-rule-start.true

pub constant_node-returns-then-tag-eq-LITERAL : goal.constant_node-returns-then-tag-eq-LITERAL
constant_node-returns-then-tag-eq-LITERAL t c = within_literal c.if-tag-eq-LITERAL.true (literal_gives c.literal_value.ensures)

pub constant_node-returns-in-18 : goal.constant_node-returns-in-18
constant_node-returns-in-18 t c = within_one refl (λ p. omega arith) (λ p. omega arith) (omega arith) c.byte_at-number.ensures (children_gives c.children_at-at.ensures) c.constant-v.ensures c.one.ensures

pub constant_node-returns-in-23 : goal.constant_node-returns-in-23
constant_node-returns-in-23 t c = within_two refl (omega arith) (λ p. omega arith) (children_gives c.children_at-at.ensures) (end_gives c.field_end-middle.ensures) c.constant-a.ensures c.constant-b.ensures c.two.ensures

pub constant_node-returns-in-25 : goal.constant_node-returns-in-25
constant_node-returns-in-25 t c = within_case c.in-25.is c.constant_case.ensures

pub constant_node-returns-in_default : goal.constant_node-returns-in_default
constant_node-returns-in_default t c = within_column (omega arith)

pub constant_node-returns-in_default-2 : goal.constant_node-returns-in_default-2
constant_node-returns-in_default-2 t c = within_none (omega arith)

pub constant_with-returns-in-Failed : goal.constant_with-returns-in-Failed
constant_with-returns-in-Failed t c = with_failed (ap kind_of c.in-Failed.is)

pub constant_with-returns-in-Null : goal.constant_with-returns-in-Null
constant_with-returns-in-Null t c = with_null (ap kind_of c.in-Null.is) (behind_gives c.behind_fields-place.ensures) c.constant_else.ensures

pub constant_with-returns-in_default : goal.constant_with-returns-in_default
constant_with-returns-in_default t c = let fits = some_value c.args.base (search rules) in with_value fits.0 fits.1 c.constant_branches.ensures
