-- The place of a column, or no place.
use Rattle.std.proofs.Common.{ap, ◌∙◌, take, get_or}
use Rattle.std.specs.Option.{unwrap_or}
use Rattle.std.proofs.lemmas.Option.{unwrap_or-slice_get}
use Rattle.table.proofs.slices.place_of.Goals as goal

pub returns : goal.returns
returns c =
    c.unwrap_or.ensures ∙ ap (λ o. unwrap_or o c.no_place.result) c.column.ensures
    ∙ unwrap_or-slice_get (take c.args.t.count c.args.t.columns) c.args.column c.no_place.result ∙ ap (get_or (take c.args.t.count c.args.t.columns) c.args.column) c.no_place.ensures
