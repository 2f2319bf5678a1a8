-- An Int64 as each type.
use Rattle.std.proofs.Common.{refl}
use Rattle.scalar.specs.declared.value.Value.TheVariants.{Int64}
use Rattle.scalar.specs.Cast.{cast_entry}
use Rattle.scalar.specs.Casts.{cast_value}
use Rattle.scalar.proofs.CastLaws.{cast_to_lem, int64_float}
use Rattle.scalar.proofs.cast.from_int64.Goals as goal

pub returns-in-Boolean : goal.returns-in-Boolean
unfolding cast_value cast_entry
returns-in-Boolean c = cast_to_lem (Int64 c.args.n) c.in-Boolean.is refl

pub returns-in-Int64 : goal.returns-in-Int64
unfolding cast_value cast_entry
returns-in-Int64 c = cast_to_lem (Int64 c.args.n) c.in-Int64.is refl

pub returns-in-Float64 : goal.returns-in-Float64
unfolding cast_value cast_entry
returns-in-Float64 c = int64_float c.args.n c.in-Float64.is c.floated.ensures

pub returns-in-Utf8 : goal.returns-in-Utf8
unfolding cast_value cast_entry
returns-in-Utf8 c = cast_to_lem (Int64 c.args.n) c.in-Utf8.is refl
