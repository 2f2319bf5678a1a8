-- Tag 3, by its length: none, or a bit for each row.
use Rattle.layout.proofs.AnswerLaws.{passed_on}
use mathlib.Core.Path.{sym, ◌∙◌}
use Rattle.table.proofs.PartsLaws.{validity_refused, validity_none, validity_bits, validity_other}
use Rattle.table.proofs.part.validity_part.Goals.{else-size-ne0-via-then-size-ne0+else-size-bitmap_length, else-size-ne0-via-else-size-ne0}
use Rattle.table.proofs.part.validity_part.Goals as goal

pub returns-in_err-validity : goal.returns-in_err-validity
returns-in_err-validity c = rw (passed_on c.from_residual.result c.from_residual.ensures.1) (validity_refused c.args.at c.args.rows c.in_err-validity.ensures)

pub returns-then-size-bitmap_length : goal.returns-then-size-bitmap_length
returns-then-size-bitmap_length c = validity_other c.args.at c.args.rows c.in_ok-validity.ensures c.if-size-ne0.true (λ q. c.if-size-bitmap_length.true (q ∙ sym c.bitmap_length.ensures))

pub returns : goal.returns
returns c = elim c.else-size-ne0.branch [
  | else-size-ne0-via-then-size-ne0+else-size-bitmap_length w ↦ validity_bits c.args.at c.args.rows c.in_ok-validity.ensures w.if-size-ne0.true (w.if-size-bitmap_length.false ∙ w.bitmap_length.ensures)
  | else-size-ne0-via-else-size-ne0 w ↦ validity_none c.args.at c.args.rows c.in_ok-validity.ensures w.if-size-ne0.false
]
