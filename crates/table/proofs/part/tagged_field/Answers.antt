-- The field of a tag: a header that is cut or has another tag is 9.
use mathlib.Core.Path.{sym, ◌∙◌}
use Rattle.table.proofs.PartsLaws.{field_cut, field_found, field_other}
use Rattle.table.proofs.part.tagged_field.Goals as goal

pub returns-in-None : goal.returns-in-None
returns-in-None c = field_cut c.args.bytes.now c.args.at c.args.tag (sym c.field_at.ensures ∙ c.in-None.is)

pub returns-then-field-tag : goal.returns-then-field-tag
returns-then-field-tag c = field_found c.args.bytes.now c.args.at c.args.tag c.in-Some.field (sym c.field_at.ensures ∙ c.in-Some.is) c.if-field-tag.true

pub returns-else-field-tag : goal.returns-else-field-tag
returns-else-field-tag c = field_other c.args.bytes.now c.args.at c.args.tag c.in-Some.field (sym c.field_at.ensures ∙ c.in-Some.is) c.if-field-tag.false
