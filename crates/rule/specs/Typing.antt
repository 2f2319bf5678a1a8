-- The type of an expression, and which types a node's children may have (01, Bytes of a rule: Types).
use Rattle.std.specs.Prelude.{Bool, true, ◌&&◌, ◌||◌}
use Rattle.scalar.specs.declared.types.DataType.{DataType}
use Rattle.scalar.specs.declared.types.DataType.TheVariants.{Boolean}
use Rattle.scalar.specs.Types.{same_type, is_number}
use Rattle.scalar.specs.Cast.{listed}
use Rattle.rule.specs.Tree.{Expr, column, literal, negation, negative, is_not_null, cast, try_cast, equal, less, case_when, Branches, no_more, branch, Optional, absent, present, is_null_literal}

unfoldable mutual
  -- the type of an expression; a CASE has its result's
  pub type_of : Expr → DataType
  type_of (column c) = c.type
  type_of (literal t v) = t
  type_of (negation e) = Boolean
  type_of (negative e) = type_of e
  type_of (is_not_null e) = Boolean
  type_of (cast t e) = t
  type_of (try_cast t e) = t
  type_of (equal a b) = Boolean
  type_of (less a b) = Boolean
  type_of (case_when b bs e) = result_type bs

  -- THENs share one type, the result's
  pub result_type : Branches → DataType
  result_type no_more = Boolean
  result_type (branch w t bs) = type_of t

-- without a base a WHEN is Boolean, with one it has the base's type
abbrev pub when_type : Optional → DataType
when_type absent = Boolean
when_type (present b) = type_of b

-- each WHEN has the type it is asked to have, each THEN the result's
unfoldable pub branches_typed : DataType → DataType → Branches → Bool
branches_typed when then no_more = true
branches_typed when then (branch w t bs) = same_type (type_of w) when && same_type (type_of t) then && branches_typed when then bs

-- a null literal ELSE is dropped before the check; any other is try-cast to the result's type by a listed pair
abbrev pub else_typed : DataType → Optional → Bool
else_typed result absent = true
else_typed result (present e) = is_null_literal e || listed (type_of e) result

-- the types of a node's children fit; negative takes 2, 3, 4
unfoldable pub node_typed : Expr → Bool
node_typed (column c) = true
node_typed (literal t v) = true
node_typed (negation e) = same_type (type_of e) Boolean
node_typed (negative e) = is_number (type_of e)
node_typed (is_not_null e) = true
node_typed (cast t e) = listed (type_of e) t
node_typed (try_cast t e) = listed (type_of e) t
node_typed (equal a b) = same_type (type_of a) (type_of b)
node_typed (less a b) = same_type (type_of a) (type_of b)
node_typed (case_when b bs e) = branches_typed (when_type b) (result_type bs) bs && else_typed (result_type bs) e
