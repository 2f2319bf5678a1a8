-- `class_rows` has the literals and the index of each row, and then the classes of the rows of THENs that are CASEs; or no classes.
use Rattle.std.proofs.Common.{rules, refl, arith}
use Rattle.case.proofs.RootLaws.{root_framed, classes_give, classes_if}
use Rattle.case.proofs.root.class_rows.Goals as goal

pub case_values-requires : goal.case_values-requires
case_values-requires c = root_framed c.requires.root_asks 1 (omega arith)

pub returns : goal.returns
returns c =
    let number = c.is_number.ensures c.if-not-is_number.false in
    classes_if c.nested_thens.result (λ found. classes_give c.case_values.ensures (search rules) c.byte_at.ensures (omega (arith, c.byte_at.type_inv)) c.in-Some.ensures (omega arith) c.requires.root_asks refl number.0 number.1 found c.nested_thens.ensures) (record { long = c.nested_thens.ensures.long; low = c.nested_thens.ensures.low; asks = tt; right = tt })
