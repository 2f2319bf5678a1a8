-- `write_classes` writes rows that are a column of the type, and else says that they are none.
use mathlib.Core.Path.{sym, ◌∙◌}
use Rattle.writer.proofs.FitLaws.{classes_ask}
use Rattle.writer.proofs.classes.write_classes.Goals as goal

pub write_classed-requires : goal.write_classed-requires
write_classed-requires c = classes_ask c.args.rows c.args.classes.now c.args.payloads.now c.args.t (sym c.classes_fit.ensures ∙ c.if-not-classes_fit.false)
