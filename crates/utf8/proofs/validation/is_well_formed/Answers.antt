-- A text is well-formed where its validation is no error.
use mathlib.Core.Path.{ap, ◌∙◌}
use Rattle.std.specs.Prelude.{is_ok}
use Rattle.utf8.proofs.ValidationLaws.{told}
use Rattle.utf8.proofs.validation.is_well_formed.Goals as goal

pub returns : goal.returns
returns c = c.is_ok.ensures.value ∙ ap is_ok c.validate.ensures ∙ told c.args.text.now
