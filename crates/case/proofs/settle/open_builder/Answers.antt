-- `open_builder` gives a builder that holds nothing.
use Rattle.std.proofs.Common.{sym, ◌∙◌}
use Rattle.case.proofs.SettleLaws.{new_there, new_free, new_open}
use Rattle.case.proofs.settle.open_builder.Goals as goal

pub unwrap-requires : goal.unwrap-requires
unwrap-requires c = new_there c.new.ensures c.requires

pub returns : goal.returns
returns c = let said = sym c.unwrap.ensures ∙ c.new.ensures in (new_open c.args.rows c.unwrap.result said c.requires, new_free c.args.rows c.unwrap.result said c.requires)
