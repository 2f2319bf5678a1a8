-- A type by its number, else 11.
use mathlib.Core.Path.{◌∙◌}
use Rattle.table.proofs.ColumnLaws.{typed_is}
use Rattle.table.proofs.column.typed.Goals as goal

pub returns : goal.returns
returns c = c.ok_or.ensures.value ∙ typed_is c.args.number c.numbered.ensures
