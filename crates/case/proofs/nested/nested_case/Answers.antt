-- `nested_case` reads the literals behind the class and numbers the rows by their indices, where all are of the kind and the rows have indices; or finds no classes.
use Rattle.std.proofs.Common.{rules, arith}
use Rattle.case.proofs.FrameLaws.{rows_small}
use Rattle.case.proofs.NestedLaws.{type_some, case_none, index_in, case_classed}
use Rattle.case.proofs.nested.nested_case.Goals as goal

pub case_values-requires : goal.case_values-requires
case_values-requires c = c.requires

pub returns-then-ne : goal.returns-then-ne
returns-then-ne c = case_none c.in_ok-place.ensures.grown

pub class_listed-requires : goal.class_listed-requires
class_listed-requires c = record { rows = (rows_small c.requires.small c.requires.list_ok, omega (arith, c.requires.room, c.requires.list_ok.few)); below = index_in c.case_values.ensures (search rules) c.in_ok-place.ensures }

pub returns : goal.returns
returns c = case_classed c.case_values.ensures (search rules) c.in_ok-place.ensures c.byte_at.ensures (type_some c.args.res) c.class_listed.ensures
