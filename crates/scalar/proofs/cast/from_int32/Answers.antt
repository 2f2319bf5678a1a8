-- An Int32 as each type.
use Rattle.std.proofs.Common.{refl, ap}
use Rattle.scalar.specs.declared.value.Value.TheVariants.{Int32, Int64}
use Rattle.scalar.specs.Cast.{cast_entry}
use Rattle.scalar.specs.Casts.{cast_value}
use Rattle.scalar.proofs.CastLaws.{cast_to_lem, int32_float}
use Rattle.scalar.proofs.cast.from_int32.Goals as goal

pub returns-in-Boolean : goal.returns-in-Boolean
unfolding cast_value cast_entry
returns-in-Boolean c = cast_to_lem (Int32 c.args.n) c.in-Boolean.is refl

pub returns-in-Int32 : goal.returns-in-Int32
unfolding cast_value cast_entry
returns-in-Int32 c = cast_to_lem (Int32 c.args.n) c.in-Int32.is refl

pub returns-in-Int64 : goal.returns-in-Int64
unfolding cast_value cast_entry
returns-in-Int64 c = cast_to_lem (Int32 c.args.n) c.in-Int64.is (ap Int64 c.widened.ensures)

pub returns-in-Float64 : goal.returns-in-Float64
unfolding cast_value cast_entry
returns-in-Float64 c = int32_float c.args.n c.ranges.n.fits c.in-Float64.is c.widened-in-Float64.ensures c.floated.ensures

pub returns-in-Utf8 : goal.returns-in-Utf8
unfolding cast_value cast_entry
returns-in-Utf8 c = cast_to_lem (Int32 c.args.n) c.in-Utf8.is refl
