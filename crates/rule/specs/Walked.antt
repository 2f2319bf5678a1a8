-- What the walks over a rule's bytes give at every place, whatever stands there (01, Bytes of a rule).
use Rattle.std.specs.Prelude.{Bool, cond, ◌||◌, List, ℕ, zero, suc, ◌+◌, ◌-◌, ◌%◌, eqb, leb, ltb, length, Option, Some, None}
use Rattle.layout.specs.declared.field.FieldPlace.{FieldPlace}
use Rattle.layout.specs.Result.{Result, refused, ok}
use Rattle.layout.specs.Bytes.{byte, number_at}
use Rattle.layout.specs.Place.{header_at}
use Rattle.scalar.specs.declared.types.DataType.{DataType}
use Rattle.scalar.specs.declared.types.DataType.TheVariants as Of
use Rattle.scalar.specs.declared.value.Value.{Value}
use Rattle.scalar.specs.declared.value.Value.TheVariants.{Null, Boolean, Int32, Int64, RuleText}
use Rattle.scalar.specs.Types.{type_numbered}
use Rattle.scalar.specs.Value.{float_value}

-- the end that a header says; where the field is cut, the end of the rule
abbrev pub header_end : ℕ → Option FieldPlace → ℕ
header_end size (Some p) = p.end
header_end size None = size

-- where the field at a place ends; behind the rule's end, the place itself
unfoldable pub field_end : List ℕ → ℕ → ℕ
field_end rule at = cond (leb (length rule) at) at (header_end (length rule) (header_at rule at))

-- what stands behind so many fields
unfoldable pub behind_fields : List ℕ → ℕ → ℕ → ℕ
behind_fields rule at zero = at
behind_fields rule at (suc n) = behind_fields rule (field_end rule at) n

-- the tags of a column and of a literal, which have no child
abbrev pub leaf_tag : ℕ → Bool
leaf_tag tag = eqb tag 16 || eqb tag 17

-- the bytes before a node's children, by its tag: a cast's type byte, a CASE's flags and branch count
abbrev pub head_size : ℕ → ℕ
head_size tag = cond (eqb tag 21 || eqb tag 22) 1 (cond (eqb tag 25) 2 0)

-- where the children of the node at a place stand: behind its header and the bytes before them, of a leaf at its end; behind the rule's end, the place itself
unfoldable pub children_at : List ℕ → ℕ → ℕ
children_at rule at = cond (leb (length rule) at) at (cond (leaf_tag (byte rule at)) (field_end rule at) (at + 3 + head_size (byte rule at)))

-- the type that was found; where there is none, Utf8
abbrev pub or_text : Result DataType → DataType
or_text (refused n) = Of.Utf8
or_text (ok t) = t

-- the type of a number: 1 Boolean, 2 Int32, 3 Int64, 4 Float64, and Utf8 for any other
unfoldable pub type_from : ℕ → DataType
type_from n = or_text (type_numbered 3 n)

-- a literal's value: Boolean is a byte 0 or 1, numbers 4 or 8 bytes, text any bytes up to the end; null where the end stands before it
abbrev pub value_from : List ℕ → ℕ → ℕ → DataType → Value
value_from rule at end Of.Boolean = Boolean (eqb (byte rule at) 1)
value_from rule at end Of.Int32 = Int32 (number_at 4 rule at)
value_from rule at end Of.Int64 = Int64 (number_at 8 rule at)
value_from rule at end Of.Float64 = float_value (number_at 8 rule at)
value_from rule at end Of.Utf8 = cond (ltb end at) Null (RuleText at (end - at))

-- the value of the literal at a place, by its type and null mark; behind the rule's end, null
unfoldable pub literal_at : List ℕ → ℕ → ℕ → Value
literal_at rule start end =
    cond (leb (length rule) start || eqb (byte rule (start + 4)) 1) Null (value_from rule (start + 5) end (type_from (byte rule (start + 3))))

-- where the first THEN of the CASE at a place stands, behind the base, if the flags say one, and a WHEN; behind the rule's end, the place itself
unfoldable pub first_then : List ℕ → ℕ → ℕ
first_then rule at = cond (leb (length rule) at) at (behind_fields rule (at + 5) (byte rule (at + 3) % 2 + 1))

-- where a node has its type from: itself, or the node at another place
pub data TypeSource : Type 0 where
  itself : DataType → TypeSource
  another : ℕ → TypeSource

-- by its tag: columns, literals and casts have a type byte, negative has its child's type, a CASE its first THEN's; all others are Boolean
abbrev pub source_by : ℕ → List ℕ → ℕ → TypeSource
source_by tag rule at =
    cond (eqb tag 16) (itself (type_from (byte rule (at + 4))))
    (cond (eqb tag 17 || eqb tag 21 || eqb tag 22) (itself (type_from (byte rule (at + 3))))
    (cond (eqb tag 19) (another (at + 3)) (cond (eqb tag 25) (another (first_then rule at)) (itself Of.Boolean))))

-- the type by its source, if `types` gives those of other places
abbrev pub type_by : (ℕ → DataType) → TypeSource → DataType
type_by types (itself t) = t
type_by types (another at) = types at

-- the type of the node at a place, in so many steps from node to node; Boolean where they don't suffice
unfoldable pub type_within : ℕ → List ℕ → ℕ → DataType
type_within zero rule at = Of.Boolean
type_within (suc n) rule at = type_by (type_within n rule) (source_by (byte rule at) rule at)

-- the type of the node at a place: each step goes onward, so the rule's length suffices
unfoldable pub type_at : List ℕ → ℕ → DataType
type_at rule at = type_within (length rule) rule at
