-- Tag 5, test by test.
use Rattle.layout.proofs.AnswerLaws.{passed_on}
use mathlib.Core.Path.{sym, ◌∙◌}
use Rattle.table.proofs.PartsLaws.{offsets_refused, offsets_length, offsets_first, offsets_fall, offsets_taken}
use Rattle.table.proofs.part.text_offsets_part.Goals as goal

pub returns-in_err-part : goal.returns-in_err-part
returns-in_err-part c = rw (passed_on c.from_residual.result c.from_residual.ensures.1) (offsets_refused c.args.at c.args.rows c.in_err-part.ensures)

pub returns-then-part-rows : goal.returns-then-part-rows
returns-then-part-rows c = offsets_length c.args.at c.args.rows c.in_ok-part.ensures c.if-part-rows.true

pub returns-then-read_u32-ne0 : goal.returns-then-read_u32-ne0
returns-then-read_u32-ne0 c = offsets_first c.args.at c.args.rows c.in_ok-part.ensures c.if-part-rows.false (λ z. c.if-read_u32-ne0.true (c.read_u32.ensures ∙ z))

pub returns-then-not-never_falls : goal.returns-then-not-never_falls
returns-then-not-never_falls c = offsets_fall c.args.at c.args.rows c.in_ok-part.ensures c.if-part-rows.false (sym c.read_u32.ensures ∙ c.if-read_u32-ne0.false) (sym c.never_falls.ensures ∙ c.if-not-never_falls.true)

pub returns : goal.returns
returns c = offsets_taken c.args.at c.args.rows c.in_ok-part.ensures c.if-part-rows.false (sym c.read_u32.ensures ∙ c.if-read_u32-ne0.false) (sym c.never_falls.ensures ∙ c.if-not-never_falls.false)
