-- ELSE's index of a null, or the index of the text.
use Rattle.std.proofs.Common.{refl, arith}
use Rattle.case.proofs.LookUpColumnLaws.{text_null, text_value, text_below}
use Rattle.case.proofs.column_lookup.text_row.Goals as goal

pub returns-then-not-valid_at : goal.returns-then-not-valid_at
returns-then-not-valid_at c = text_null c.valid_at.ensures c.if-not-valid_at.true refl

pub overflow_cast-result-2 : goal.overflow_cast-result-2
overflow_cast-result-2 c = omega (arith, text_below c.args.map.now.rule.now c.args.map.now.table.now c.row_text.result.now c.args.map.now.texts.arrays, c.index-found.ensures, c.args.map.now.texts.small)

pub returns : goal.returns
returns c = text_value c.valid_at.ensures c.if-not-valid_at.false c.row_text.ensures c.index-found.ensures refl
