-- ELSE's index of a null, or the index of the number.
use Rattle.std.proofs.Common.{get_or, refl, arith}
use Rattle.case.proofs.LookUpColumnLaws.{number_below, number_null, number_value}
use Rattle.case.proofs.column_lookup.number_row.Goals as goal

pub returns-then-not-valid_at : goal.returns-then-not-valid_at
returns-then-not-valid_at c = number_null c.valid_at.ensures c.if-not-valid_at.true refl

pub overflow_cast-result-2 : goal.overflow_cast-result-2
overflow_cast-result-2 c = omega (arith, number_below (get_or c.args.column.now c.args.row 0) c.args.map.now.numbered, c.index-j.ensures, c.args.map.now.numbered.small)

pub returns : goal.returns
returns c = number_value c.valid_at.ensures c.if-not-valid_at.false c.index-j.ensures refl
