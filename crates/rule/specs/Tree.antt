-- A rule as a tree. It keeps all that the bytes say, a null ELSE too (01, Bytes of a rule).
use Rattle.std.specs.Prelude.{Bool, false, ℕ, suc}
use Rattle.scalar.specs.declared.types.DataType.{DataType}
use Rattle.scalar.specs.Entry.{Entry, is_null}

-- a column: index, type, nullable
pub record Column : Type 0 where
  pub index : ℕ
  pub type : DataType
  pub nullable : Bool

mutual
  -- an expression
  pub data Expr : Type 0 where
    column : Column → Expr
    literal : DataType → Entry → Expr
    negation negative is_not_null : Expr → Expr
    cast try_cast : DataType → Expr → Expr
    equal less : Expr → Expr → Expr
    case_when : Optional → Branches → Optional → Expr

  -- the branches of a CASE, WHEN and THEN in turn
  pub data Branches : Type 0 where
    no_more : Branches
    branch : (when then : Expr) → Branches → Branches

  -- a part that may be absent: a base, an ELSE
  pub data Optional : Type 0 where
    absent : Optional
    present : Expr → Optional

-- the branch count
unfoldable pub branch_count : Branches → ℕ
branch_count no_more = 0
branch_count (branch w t bs) = suc (branch_count bs)

-- a literal that is null
abbrev pub is_null_literal : Expr → Bool
is_null_literal (column c) = false
is_null_literal (literal t v) = is_null v
is_null_literal (negation e) = false
is_null_literal (negative e) = false
is_null_literal (is_not_null e) = false
is_null_literal (cast t e) = false
is_null_literal (try_cast t e) = false
is_null_literal (equal a b) = false
is_null_literal (less a b) = false
is_null_literal (case_when b bs e) = false
