-- The rows' classes are written, or the slots, which have the outcomes.
use Rattle.std.proofs.Common.{[], arith}
use Rattle.case.proofs.RootLaws.{classes_found}
use Rattle.case.proofs.EvaluateLaws.{root_asks, rows_framed, classes_column, by_classes, slots_column, by_slots}
use Rattle.case.proofs.evaluate.answer_rows.Goals as goal

pub returns-then-class_rows : goal.returns-then-class_rows
returns-then-class_rows c = by_classes c.requires c.all_rows.ensures (classes_found c.if-class_rows.true c.class_rows.ensures) (omega arith) c.write_classes.ensures c.run_of.ensures

pub run_of-requires-2 : goal.run_of-requires-2
run_of-requires-2 c = slots_column c.requires c.all_rows.ensures c.class_rows.ensures c.expr.ensures c.write_answer.ensures

pub returns : goal.returns
returns c = by_slots c.requires c.all_rows.ensures c.class_rows.ensures c.expr.ensures c.write_answer.ensures c.run_of-2.ensures

pub class_rows-requires : goal.class_rows-requires
class_rows-requires c = record { root_asks = root_asks c.requires c.all_rows.ensures; empty = c.none-results.ensures }

pub run_of-requires : goal.run_of-requires
run_of-requires c = classes_column c.requires c.all_rows.ensures (classes_found c.if-class_rows.true c.class_rows.ensures) (omega arith) (c.write_classes.ensures [] [])

pub expr-requires : goal.expr-requires
expr-requires c = rows_framed c.requires c.all_rows.ensures c.class_rows.ensures
