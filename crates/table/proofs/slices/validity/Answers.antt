-- The validity at a column's place.
use mathlib.Core.Path.{refl, ◌∙◌}
use Rattle.table.proofs.PlaceLaws.{part_there}
use Rattle.table.proofs.slices.validity.Goals as goal

pub returns : goal.returns
returns c = c.part_of.ensures ∙ part_there (λ x. x.validity) c.args.bytes.now refl c.args.t c.args.column c.place_of-place.result c.place_of-place.ensures
