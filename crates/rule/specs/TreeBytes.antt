-- The bytes that a tree has (01, Bytes of a rule).
use Rattle.std.specs.Prelude.{Bool, true, false, cond, List, [], ◌∷◌, ◌++◌, ℕ, ◌+◌}
use Rattle.layout.specs.Bytes.{number_bytes}
use Rattle.layout.specs.Field.{field_bytes}
use Rattle.scalar.specs.Types.{type_number, mark_number}
use Rattle.scalar.specs.Entry.{Entry, null, boolean, int32, int64, float64, utf8, is_null}
use Rattle.rule.specs.Tree.{Expr, column, literal, negation, negative, is_not_null, cast, try_cast, equal, less, case_when, Branches, no_more, branch, Optional, absent, present, branch_count}

-- a literal's value: no value if null, Boolean a byte 0 or 1, numbers 4 or 8 bytes, text any bytes
abbrev pub value_bytes : Entry → List ℕ
value_bytes null = []
value_bytes (boolean b) = mark_number b ∷ []
value_bytes (int32 n) = number_bytes 4 n
value_bytes (int64 n) = number_bytes 8 n
value_bytes (float64 n) = number_bytes 8 n
value_bytes (utf8 t) = t

-- a part that is present
abbrev pub is_present : Optional → Bool
is_present absent = false
is_present (present e) = true

-- flags: 1 base present, 2 ELSE present, 3 both, 0 neither
abbrev pub flags_of : Optional → Optional → ℕ
flags_of base els = cond (is_present base) 1 0 + cond (is_present els) 2 0

unfoldable mutual
  -- a tree's field, tags 16 to 25
  pub bytes_of : Expr → List ℕ
  bytes_of (column c) = field_bytes 16 (c.index ∷ type_number c.type ∷ mark_number c.nullable ∷ [])
  bytes_of (literal t v) = field_bytes 17 (type_number t ∷ mark_number (is_null v) ∷ value_bytes v)
  bytes_of (negation e) = field_bytes 18 (bytes_of e)
  bytes_of (negative e) = field_bytes 19 (bytes_of e)
  bytes_of (is_not_null e) = field_bytes 20 (bytes_of e)
  bytes_of (cast t e) = field_bytes 21 (type_number t ∷ bytes_of e)
  bytes_of (try_cast t e) = field_bytes 22 (type_number t ∷ bytes_of e)
  bytes_of (equal a b) = field_bytes 23 (bytes_of a ++ bytes_of b)
  bytes_of (less a b) = field_bytes 24 (bytes_of a ++ bytes_of b)
  bytes_of (case_when b bs e) = field_bytes 25 (flags_of b e ∷ branch_count bs ∷ optional_bytes b ++ (branches_bytes bs ++ optional_bytes e))

  -- WHEN and THEN in turn
  pub branches_bytes : Branches → List ℕ
  branches_bytes no_more = []
  branches_bytes (branch w t bs) = bytes_of w ++ (bytes_of t ++ branches_bytes bs)

  -- a base or an ELSE, if it is present
  pub optional_bytes : Optional → List ℕ
  optional_bytes absent = []
  optional_bytes (present e) = bytes_of e
