-- The null count, if it is written.
use mathlib.Core.Path.{sym, ◌∙◌}
use Rattle.table.proofs.ColumnLaws.{count_absent, count_tagged}
use Rattle.table.proofs.part.count_part.Goals as goal

pub returns-then-byte_at-ne-NULL_COUNT : goal.returns-then-byte_at-ne-NULL_COUNT
returns-then-byte_at-ne-NULL_COUNT c = count_absent c.args.bytes.now c.args.at (λ e. c.if-byte_at-ne-NULL_COUNT.true (c.byte_at.ensures ∙ e))

pub returns : goal.returns
returns c = count_tagged c.args.bytes.now c.args.at (sym c.byte_at.ensures ∙ c.if-byte_at-ne-NULL_COUNT.false) c.tagged_field.result c.tagged_field.ensures
