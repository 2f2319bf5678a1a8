-- A Boolean as each type.
use borrow.Author.Rules.{rules}
use Rattle.std.proofs.Common.{refl, ap, ◌∙◌}
use Rattle.scalar.specs.declared.value.Value.TheVariants.{Boolean, Int32, Int64}
use Rattle.scalar.specs.Cast.{cast_entry}
use Rattle.scalar.specs.Casts.{cast_value}
use Rattle.scalar.proofs.TypeLaws.{boolean_mark}
use Rattle.scalar.proofs.CastLaws.{cast_to_lem, boolean_lost}
use Rattle.scalar.proofs.cast.from_boolean.Goals as goal

pub returns-in-Boolean : goal.returns-in-Boolean
unfolding cast_value cast_entry
returns-in-Boolean c = cast_to_lem (Boolean c.args.b) c.in-Boolean.is refl

pub returns-in-Int32 : goal.returns-in-Int32
unfolding cast_value cast_entry
returns-in-Int32 c = cast_to_lem (Boolean c.args.b) c.in-Int32.is (ap Int32 (c.from.ensures ∙ boolean_mark c.args.b))

pub returns-in-Int64 : goal.returns-in-Int64
unfolding cast_value cast_entry
returns-in-Int64 c = cast_to_lem (Boolean c.args.b) c.in-Int64.is (ap Int64 (c.from-in-Int64.ensures ∙ boolean_mark c.args.b))

pub returns-in_default : goal.returns-in_default
returns-in_default c = boolean_lost c.args.to c.args.b (search rules)
