-- Casts of values, and what their steps give.
use Rattle.std.specs.Prelude.{ℕ, Bool, cond, ◌&&◌, ◌==◌, Option, Some, None}
use Rattle.scalar.specs.declared.types.DataType.{DataType}
use Rattle.scalar.specs.declared.types.DataType.TheVariants as type
use Rattle.scalar.specs.declared.value.Value.{Value}
use Rattle.scalar.specs.declared.value.Value.TheVariants.{Null, Failed}
use Rattle.scalar.specs.Types.{same_type}
use Rattle.scalar.specs.Entry.{Entry, float64, Outcome, entry, unfit}
use Rattle.scalar.specs.Cast.{cast_entry}
use Rattle.scalar.specs.Value.{kind_of, value_saying, on_value}

-- a value of a type that is cast to itself alone: kept, or failed
abbrev pub kept_as : DataType → DataType → Value → Value
kept_as own to v = cond (same_type to own) v Failed

-- a float, by its bits, as a type of integers: its whole part, or failed
abbrev pub truncated_as : DataType → ℕ → Value
truncated_as to bits = value_saying Null (cast_entry to (float64 bits))

-- the outcome of a number, as an entry of a type; of no number it is unfit
abbrev pub outcome_made : (ℕ → Entry) → Option ℕ → Outcome
outcome_made made None = unfit
outcome_made made (Some n) = entry (made n)

-- a float that has some bits: kept as it is held, or made of the bits
abbrev pub float_as : DataType → Value → ℕ → Value
float_as to v bits = cond (same_type to type.Float64) v (truncated_as to bits)

-- a cast (01, Modules: cast.rs): a float as a float is kept as it is held, the rest is made of the entry
unfoldable pub cast_value : DataType → Value → Value
cast_value to v = cond (kind_of v == 4 && same_type to type.Float64) v (on_value (cast_entry to) v)

-- a value that has failed
abbrev pub failed : Value → Bool
failed v = kind_of v == 7

-- a try-cast (01, Modules: try_cast.rs): a value that doesn't fit becomes null; what failed before stays failed
unfoldable pub try_cast_value : DataType → Value → Value
try_cast_value to v = cond (failed v) Failed (cond (failed (cast_value to v)) Null (cast_value to v))
