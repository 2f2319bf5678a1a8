-- The cycle of calls that evaluates expressions and CASEs over a list of rows. The measure is sixteen times the depth that is left, and how far a
-- call is from the next node. What is to be shown at each call and at each return is a law over plain lists.
use Rattle.std.proofs.Common.{◌+◌, sym, refl, ◌∙◌, arith}
use Rattle.case.proofs.FrameLaws.{rows_to, rows_small, framed_fillable, framed_kept}
use Rattle.case.proofs.ExprLaws.{expr_none, expr_behind, expr_column, expr_literal, expr_case, expr_unary, expr_binary, unary_gives, binary_gives, against_none, against_value, against_asks, against_next, against_rows}
use Rattle.case.proofs.LookUpCase.{keyed_case}
use Rattle.case.proofs.CaseLaws.{shape_1, shape_2, shape_3, shape_4, shape_5, shape_6, case_none, case_behind, case_by, scalar_gives, column_gives, lookup_gives, no_expr_gives, single_gives, no_expr_steps, single_steps, scalar_steps, with_expr_gives, by_base_gives}
use Rattle.case.proofs.ChooseLaws.{open_rows, open_self, step_turn, turn_asks, turn_open, turn_gives, choose_none, choose_end, choose_more}
use Rattle.case.proofs.TakeLaws.{picked_asks, picked_next, next_asks, next_fillable, next_takes, then_known, then_takes, else_none, else_known_lem, else_next, else_again, else_takes, start_framed, start_done, take_none, take_framed, take_more, take_end}
use Rattle.case.proofs.MergeLaws.{branches_framed, branches_gives}
use Rattle.rule.proofs.StrategyLaws.{strategy_gives}
use Rattle.rule.proofs.LiteralLaws.{literal_gives}
use Rattle.rule.proofs.WalkLaws.{children_gives, end_gives}
use Rattle.rule.proofs.TypeOfLaws.{type_gives}
use Rattle.case.proofs.case.+expressions.Goals as goal

pub against-returns-then-depth-eq0 : goal.against-returns-then-depth-eq0
against-returns-then-depth-eq0 t c = against_none c.if-depth-eq0.true

pub against-returns-then-byte_at-eq-LITERAL : goal.against-returns-then-byte_at-eq-LITERAL
against-returns-then-byte_at-eq-LITERAL t c = against_value c.requires.list_ok.few (sym c.byte_at.ensures ∙ c.if-byte_at-eq-LITERAL.true) (literal_gives c.literal_value.ensures) c.compare_value.ensures

pub against-returns : goal.against-returns
against-returns t c = against_rows c.requires (omega arith) c.copy_list.ensures c.expr.ensures c.compare_rows.ensures

pub binary-returns : goal.binary-returns
binary-returns t c = binary_gives c.requires.list_ok.few (children_gives c.children_at-at.ensures) (end_gives c.field_end-middle.ensures) c.byte_at-less.ensures c.expr.ensures c.against.ensures

pub branches-returns : goal.branches-returns
branches-returns t c = branches_gives c.requires.framed c.requires.depth_nonzero.0 c.requires.depth_nonzero.1 c.choose-s.ensures c.else_values-values.ensures c.take.ensures

pub by_base-returns : goal.by_base-returns
by_base-returns t c = by_base_gives c.requires.framed.list_ok.few (rows_small c.requires.framed.small c.requires.framed.list_ok) c.copy_list.ensures c.settle-s.ensures c.branches.ensures

pub case-returns-then-depth-eq0 : goal.case-returns-then-depth-eq0
case-returns-then-depth-eq0 t c = case_none c.if-depth-eq0.true

pub case-returns-in-NoExpression : goal.case-returns-in-NoExpression
case-returns-in-NoExpression t c = case_by c.requires.list_ok.few (strategy_gives c.strategy_at.ensures) c.in-NoExpression.is shape_1 c.case_when_no_expr.ensures

pub case-returns-in-WithExpression : goal.case-returns-in-WithExpression
case-returns-in-WithExpression t c = case_by c.requires.list_ok.few (strategy_gives c.strategy_at.ensures) c.in-WithExpression.is shape_2 c.case_when_with_expr.ensures

pub case-returns-in-InfallibleExprOrNull : goal.case-returns-in-InfallibleExprOrNull
case-returns-in-InfallibleExprOrNull t c = case_by c.requires.list_ok.few (strategy_gives c.strategy_at.ensures) c.in-InfallibleExprOrNull.is shape_3 c.case_column_or_null.ensures

pub case-returns-in-ScalarOrScalar : goal.case-returns-in-ScalarOrScalar
case-returns-in-ScalarOrScalar t c = case_by c.requires.list_ok.few (strategy_gives c.strategy_at.ensures) c.in-ScalarOrScalar.is shape_4 c.scalar_or_scalar.ensures

pub case-returns-in-ExpressionOrExpression : goal.case-returns-in-ExpressionOrExpression
case-returns-in-ExpressionOrExpression t c = case_by c.requires.list_ok.few (strategy_gives c.strategy_at.ensures) c.in-ExpressionOrExpression.is shape_5 c.expr_or_expr.ensures

pub case-returns-in-WithExprScalarLookupTable : goal.case-returns-in-WithExprScalarLookupTable
case-returns-in-WithExprScalarLookupTable t c = case_by c.requires.list_ok.few (strategy_gives c.strategy_at.ensures) c.in-WithExprScalarLookupTable.is shape_6 c.with_lookup_table.ensures

pub case_column_or_null-returns : goal.case_column_or_null-returns
case_column_or_null-returns t c = column_gives c.requires.list_ok.few (children_gives c.children_at-at.ensures) (end_gives c.field_end-then.ensures) c.expr.ensures c.cells_or_null.ensures

pub case_when_no_expr-returns-then-rule-start : goal.case_when_no_expr-returns-then-rule-start
case_when_no_expr-returns-then-rule-start t c = case_behind c.if-rule-start.true

pub case_when_no_expr-returns-then-step_values : goal.case_when_no_expr-returns-then-step_values
case_when_no_expr-returns-then-step_values t c = no_expr_steps _ c.requires.framed.list_ok.few (children_gives c.children_at-at.ensures) (type_gives c.type_of-to.ensures) c.step_values.ensures c.if-step_values.true c.take.ensures c.byte_at-count.ensures

pub case_when_no_expr-returns : goal.case_when_no_expr-returns
case_when_no_expr-returns t c = no_expr_gives c.requires.framed.list_ok.few (children_gives c.children_at-at.ensures) (type_gives c.type_of-to.ensures) c.copy_list.ensures c.branches.ensures c.byte_at-count.ensures

pub case_when_with_expr-returns-then-rule-start : goal.case_when_with_expr-returns-then-rule-start
case_when_with_expr-returns-then-rule-start t c = case_behind c.if-rule-start.true

pub case_when_with_expr-returns : goal.case_when_with_expr-returns
case_when_with_expr-returns t c = with_expr_gives c.requires.framed.list_ok.few c.byte_at-count.ensures (children_gives c.children_at-at.ensures) (end_gives c.field_end-first.ensures) (type_gives c.type_of-to.ensures) c.expr.ensures c.by_base.ensures

pub choose-loop-i-preserved : goal.choose-loop-i-preserved
choose-loop-i-preserved t c = choose_more c.requires c.loop-i.invariant c.loop-i-test.true (end_gives c.field_end-then.ensures) (end_gives c.field_end-place.ensures) c.turn-s.ensures

pub choose-returns : goal.choose-returns
choose-returns t c = choose_end c.requires c.loop-i.invariant c.loop-i-test.false

pub expr-returns-then-depth-eq0 : goal.expr-returns-then-depth-eq0
expr-returns-then-depth-eq0 t c = expr_none c.if-depth-eq0.true

pub expr-returns-then-rule-start : goal.expr-returns-then-rule-start
expr-returns-then-rule-start t c = expr_behind c.if-rule-start.true

pub expr-returns-in-16 : goal.expr-returns-in-16
expr-returns-in-16 t c = expr_column c.requires c.in-16.is c.byte_at.ensures c.fill_cells.ensures

pub expr-returns-in-17 : goal.expr-returns-in-17
expr-returns-in-17 t c = expr_literal c.requires c.in-17.is c.fill_literal.ensures

pub expr-returns-in-25 : goal.expr-returns-in-25
expr-returns-in-25 t c = expr_case c.requires (omega arith) c.in-25.is c.case.ensures

pub expr-returns-in-0-to-22 : goal.expr-returns-in-0-to-22
expr-returns-in-0-to-22 t c = expr_unary c.requires (omega arith) refl (λ e. omega arith) (λ e. omega arith) (λ e. omega arith) (omega arith) c.unary.ensures

pub expr-returns-in_default : goal.expr-returns-in_default
expr-returns-in_default t c = expr_binary c.requires (omega arith) refl (λ e. omega arith) (λ e. omega arith) (λ e. omega arith) (omega arith) c.binary.ensures

pub expr_or_expr-returns-then-step_values : goal.expr_or_expr-returns-then-step_values
expr_or_expr-returns-then-step_values t c = single_steps _ c.requires.framed.list_ok.few (children_gives c.children_at-at.ensures) (type_gives c.type_of-to.ensures) c.step_values.ensures c.if-step_values.true c.take.ensures refl

pub expr_or_expr-returns : goal.expr_or_expr-returns
expr_or_expr-returns t c = single_gives c.requires.framed.list_ok.few (children_gives c.children_at-at.ensures) (type_gives c.type_of-to.ensures) c.copy_list.ensures c.branches.ensures refl

pub scalar_or_scalar-returns-then-step_values : goal.scalar_or_scalar-returns-then-step_values
scalar_or_scalar-returns-then-step_values t c = scalar_steps _ c.requires.framed.list_ok.few (children_gives c.children_at-at.ensures) (type_gives c.type_of-to.ensures) c.step_values.ensures c.if-step_values.true c.take.ensures refl

pub scalar_or_scalar-returns : goal.scalar_or_scalar-returns
scalar_or_scalar-returns t c = scalar_gives c.requires.framed.list_ok.few (children_gives c.children_at-at.ensures) (end_gives c.field_end-then.ensures) c.expr.ensures c.scalar_rows.ensures

pub take-loop-k-preserved : goal.take-loop-k-preserved
take-loop-k-preserved t c = take_more (start_framed c.requires.framed c.start_results.ensures) c.loop-k.invariant c.loop-k-test.true (end_gives c.field_end-result.ensures) (end_gives c.field_end-next.ensures) c.then.ensures

pub take-returns : goal.take-returns
take-returns t c = start_done c.requires.framed c.start_results.ensures (take_end (start_framed c.requires.framed c.start_results.ensures) c.loop-k.invariant c.loop-k-test.false c.take_else.ensures)

pub take_else-returns-then-at-end : goal.take_else-returns-then-at-end
take_else-returns-then-at-end t c = else_none c.if-at-end.true

pub take_else-returns-then-byte_at-eq-LITERAL : goal.take_else-returns-then-byte_at-eq-LITERAL
take_else-returns-then-byte_at-eq-LITERAL t c = else_known_lem (sym c.byte_at.ensures ∙ c.if-byte_at-eq-LITERAL.true)

pub take_else-returns : goal.take_else-returns
take_else-returns t c = else_takes c.args.values.now c.requires.framed c.requires.depth_nonzero c.pick-m.ensures c.if-at-end.false c.expr.ensures c.args.to c.apply.ensures c.copy_slots.ensures

pub then-returns-then-byte_at-eq-LITERAL : goal.then-returns-then-byte_at-eq-LITERAL
then-returns-then-byte_at-eq-LITERAL t c = then_known (sym c.byte_at.ensures ∙ c.if-byte_at-eq-LITERAL.true)

pub then-returns : goal.then-returns
then-returns t c = then_takes (next_takes c.args.values.now c.requires.framed c.requires.depth_nonzero c.pick-m.ensures (picked_next c.args.values.now c.requires.framed c.requires.depth_nonzero c.pick-m.ensures c.expr.ensures) c.copy_slots.ensures)

pub turn-returns-then-step_when : goal.turn-returns-then-step_when
turn-returns-then-step_when t c = step_turn c.requires.ahead _ c.asks_true.ensures c.step_when.ensures c.if-step_when.true c.settle_by.ensures

pub turn-returns : goal.turn-returns
turn-returns t c = turn_gives c.requires.ahead c.copy_list.ensures c.expr.ensures c.args.how c.args.index c.args.failed c.settle.ensures

pub unary-returns : goal.unary-returns
unary-returns t c = unary_gives c.requires.list_ok.few (children_gives c.children_at-at.ensures) c.expr.ensures c.operator_at.ensures c.apply.ensures

pub with_lookup_table-returns-then-rule-start : goal.with_lookup_table-returns-then-rule-start
with_lookup_table-returns-then-rule-start t c = case_behind c.if-rule-start.true

pub with_lookup_table-returns-then-lookup_values : goal.with_lookup_table-returns-then-lookup_values
with_lookup_table-returns-then-lookup_values t c = keyed_case _ c.requires.list_ok.few (children_gives c.children_at-at.ensures) (end_gives c.field_end-first.ensures) c.byte_at-count.ensures (type_gives c.type_of-to.ensures) c.lookup_values.ensures c.if-lookup_values.true c.start_results.ensures

pub with_lookup_table-returns : goal.with_lookup_table-returns
with_lookup_table-returns t c = lookup_gives c.requires.list_ok.few (children_gives c.children_at-at.ensures) (end_gives c.field_end-first.ensures) c.expr.ensures c.byte_at-count.ensures (type_gives c.type_of-to.ensures) c.look_up.ensures

pub against-expr-requires : goal.against-expr-requires
against-expr-requires t c = let q = c.decreases in (omega arith, against_asks c.requires (omega arith) c.copy_list.ensures)

pub against-compare_rows-requires : goal.against-compare_rows-requires
against-compare_rows-requires t c = let q = against_next c.requires (omega arith) c.copy_list.ensures c.expr.ensures in record { fillable = q.0; in_bounds = q.1 }

pub binary-against-requires : goal.binary-against-requires
binary-against-requires t c = let q = c.decreases in (omega arith, framed_kept c.requires (c.args.depth + 1) (omega arith) _ c.expr.ensures.long c.expr.ensures.low)

pub branches-take-requires : goal.branches-take-requires
branches-take-requires t c = let q = c.decreases in (omega arith, (branches_framed c.requires.framed c.requires.depth_nonzero.0 c.requires.depth_nonzero.1 c.choose-s.ensures c.else_values-values.ensures, c.requires.depth_nonzero.0))

pub by_base-settle-s-requires : goal.by_base-settle-s-requires
by_base-settle-s-requires t c = let l = c.copy_list.ensures.long in let r = c.requires.framed.room in record { fact = open_self (c.open_builder-b.ensures.0 _ _ (rows_to _ _ 0 5632 _ _ c.copy_list.ensures.rows_copied c.requires.framed.list_ok)); in_bounds = omega arith; index_nonzero = (omega arith, omega arith) }

pub by_base-branches-requires : goal.by_base-branches-requires
by_base-branches-requires t c = let q = c.decreases in (omega arith, (framed_kept c.requires.framed (c.args.depth + 1) (omega arith) _ (c.settle-s.ensures.long ∙ c.copy_list.ensures.long) (λ j h. c.settle-s.ensures.low j (omega arith) ∙ c.copy_list.ensures.before j (omega arith)), (c.requires.depth_nonzero, open_rows _ (c.open_builder-b.ensures.0 _ _ (rows_to _ _ 0 5632 _ _ c.copy_list.ensures.rows_copied c.requires.framed.list_ok)).sized c.settle-s.ensures.still_open)))

pub case_column_or_null-cells_or_null-requires : goal.case_column_or_null-cells_or_null-requires
case_column_or_null-cells_or_null-requires t c = (framed_fillable (framed_kept c.requires (c.args.depth + 1) (omega arith) _ c.expr.ensures.long c.expr.ensures.low) (omega arith), c.requires.short)

pub case_when_no_expr-branches-requires : goal.case_when_no_expr-branches-requires
case_when_no_expr-branches-requires t c = let q = c.decreases in (omega arith, (framed_kept c.requires.framed (c.args.depth + 1) (omega arith) _ c.copy_list.ensures.long (λ j h. c.copy_list.ensures.before j (omega arith)), (c.requires.depth_nonzero, c.open_builder-b.ensures.0 _ _ (rows_to _ _ 0 5632 _ _ c.copy_list.ensures.rows_copied c.requires.framed.list_ok))))

pub case_when_with_expr-by_base-requires : goal.case_when_with_expr-by_base-requires
case_when_with_expr-by_base-requires t c = let q = c.decreases in (omega arith, (framed_kept c.requires.framed (c.args.depth + 1) (omega arith) _ c.expr.ensures.long c.expr.ensures.low, c.requires.depth_nonzero))

pub choose-loop-i-init : goal.choose-loop-i-init
choose-loop-i-init t c = choose_none c.requires

pub expr_or_expr-branches-requires : goal.expr_or_expr-branches-requires
expr_or_expr-branches-requires t c = let q = c.decreases in (omega arith, (framed_kept c.requires.framed (c.args.depth + 1) (omega arith) _ c.copy_list.ensures.long (λ j h. c.copy_list.ensures.before j (omega arith)), (c.requires.depth_nonzero, c.open_builder-b.ensures.0 _ _ (rows_to _ _ 0 5632 _ _ c.copy_list.ensures.rows_copied c.requires.framed.list_ok))))

pub scalar_or_scalar-scalar_rows-requires : goal.scalar_or_scalar-scalar_rows-requires
scalar_or_scalar-scalar_rows-requires t c = framed_fillable (framed_kept c.requires.framed (c.args.depth + 1) (omega arith) _ c.expr.ensures.long c.expr.ensures.low) (omega arith)

pub take-loop-k-init : goal.take-loop-k-init
take-loop-k-init t c = take_none c.requires.framed c.start_results.ensures

pub take-then-requires : goal.take-then-requires
take-then-requires t c = let q = c.decreases in (omega arith, (take_framed (start_framed c.requires.framed c.start_results.ensures) c.loop-k.invariant, c.requires.depth_nonzero))

pub take-take_else-requires : goal.take-take_else-requires
take-take_else-requires t c = let q = c.decreases in (omega arith, (take_framed (start_framed c.requires.framed c.start_results.ensures) c.loop-k.invariant, c.requires.depth_nonzero))

pub take_else-expr-requires : goal.take_else-expr-requires
take_else-expr-requires t c = let q = c.decreases in (omega arith, picked_asks c.args.values.now c.requires.framed c.requires.depth_nonzero c.pick-m.ensures)

pub take_else-apply-requires : goal.take_else-apply-requires
take_else-apply-requires t c = next_fillable c.args.values.now c.requires.framed c.requires.depth_nonzero c.pick-m.ensures (else_next c.args.values.now c.requires.framed c.requires.depth_nonzero c.pick-m.ensures c.if-at-end.false c.expr.ensures)

pub take_else-copy_slots-requires : goal.take_else-copy_slots-requires
take_else-copy_slots-requires t c = let q = next_asks c.args.values.now c.requires.framed c.requires.depth_nonzero c.pick-m.ensures (else_again c.args.values.now c.requires.framed c.requires.depth_nonzero c.pick-m.ensures c.if-at-end.false c.expr.ensures c.args.to c.apply.ensures) in record { fillable_from = q.0; in_bounds = q.1 }

pub then-expr-requires : goal.then-expr-requires
then-expr-requires t c = let q = c.decreases in (omega arith, picked_asks c.args.values.now c.requires.framed c.requires.depth_nonzero c.pick-m.ensures)

pub then-copy_slots-requires : goal.then-copy_slots-requires
then-copy_slots-requires t c = let q = next_asks c.args.values.now c.requires.framed c.requires.depth_nonzero c.pick-m.ensures (picked_next c.args.values.now c.requires.framed c.requires.depth_nonzero c.pick-m.ensures c.expr.ensures) in record { fillable_from = q.0; in_bounds = q.1 }

pub turn-expr-requires : goal.turn-expr-requires
turn-expr-requires t c = let q = c.decreases in (omega arith, turn_asks c.requires.ahead c.copy_list.ensures)

pub turn-settle-requires : goal.turn-settle-requires
turn-settle-requires t c = record { fact = (turn_open c.requires.ahead c.copy_list.ensures c.expr.ensures).0; in_bounds = (turn_open c.requires.ahead c.copy_list.ensures c.expr.ensures).1; index_nonzero = c.requires.index_nonzero }

pub unary-apply-requires : goal.unary-apply-requires
unary-apply-requires t c = framed_fillable (framed_kept c.requires (c.args.depth + 1) (omega arith) _ c.expr.ensures.long c.expr.ensures.low) (omega arith)

pub with_lookup_table-look_up-requires : goal.with_lookup_table-look_up-requires
with_lookup_table-look_up-requires t c = framed_fillable (framed_kept c.requires (c.args.depth + 1) (omega arith) _ c.expr.ensures.long c.expr.ensures.low) (omega arith)
