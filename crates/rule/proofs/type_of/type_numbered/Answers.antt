-- The type of a number, or Utf8.
use mathlib.Core.Path.{ap, ◌∙◌}
use Rattle.std.specs.Prelude.{Option, unwrap_or}
use Rattle.scalar.specs.declared.types.DataType.{DataType}
use Rattle.scalar.specs.declared.types.DataType.TheVariants.{Utf8}
use Rattle.rule.proofs.LiteralLaws.{type_or_text}
use Rattle.rule.proofs.type_of.type_numbered.Goals as goal

pub returns : goal.returns
returns c = c.unwrap_or.ensures ∙ ap (λ (o : Option DataType). unwrap_or o Utf8) c.numbered.ensures ∙ type_or_text c.args.n
