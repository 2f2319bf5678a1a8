-- Columns that a tree names, and what can be worked out without reading one.
use Rattle.std.specs.Prelude.{Bool, true, false, ◌&&◌, ◌||◌, List, [], ◌∷◌, ◌++◌}
use Rattle.scalar.specs.Entry.{unfit}
use Rattle.scalar.specs.Cast.{is_unfit}
use Rattle.rule.specs.Tree.{Column, Expr, column, literal, negation, negative, is_not_null, cast, try_cast, equal, less, case_when, Branches, no_more, branch, Optional, absent, present}
use Rattle.rule.specs.Row.{Row, eval}

unfoldable mutual
  -- the column fields of a tree, in the order of its bytes
  pub columns_of : Expr → List Column
  columns_of (column c) = c ∷ []
  columns_of (literal t v) = []
  columns_of (negation e) = columns_of e
  columns_of (negative e) = columns_of e
  columns_of (is_not_null e) = columns_of e
  columns_of (cast t e) = columns_of e
  columns_of (try_cast t e) = columns_of e
  columns_of (equal a b) = columns_of a ++ columns_of b
  columns_of (less a b) = columns_of a ++ columns_of b
  columns_of (case_when b bs e) = optional_columns b ++ (branches_columns bs ++ optional_columns e)

  -- of branches, WHEN and THEN in turn
  pub branches_columns : Branches → List Column
  branches_columns no_more = []
  branches_columns (branch w t bs) = columns_of w ++ (columns_of t ++ branches_columns bs)

  -- of a part that may be absent
  pub optional_columns : Optional → List Column
  optional_columns absent = []
  optional_columns (present e) = columns_of e

-- a list that holds nothing
abbrev pub is_empty : {A : Type 0} → List A → Bool
is_empty [] = true
is_empty (a ∷ l) = false

-- the row of which no column can be read: what it gives is what can be worked out without reading a column or failing
abbrev pub unread : Row
unread c = unfit

-- a cast with no column under it whose value doesn't fit
abbrev pub fails_alone : Expr → Bool
fails_alone e = is_empty (columns_of e) && is_unfit (eval e unread)

unfoldable mutual
  -- a cast (tag 21) with no column under it fails, reached or not (01, Where a call stops: 8)
  pub constant_fails : Expr → Bool
  constant_fails (column c) = false
  constant_fails (literal t v) = false
  constant_fails (negation e) = constant_fails e
  constant_fails (negative e) = constant_fails e
  constant_fails (is_not_null e) = constant_fails e
  constant_fails (cast t e) = fails_alone (cast t e) || constant_fails e
  constant_fails (try_cast t e) = constant_fails e
  constant_fails (equal a b) = constant_fails a || constant_fails b
  constant_fails (less a b) = constant_fails a || constant_fails b
  constant_fails (case_when b bs e) = optional_fails b || branches_fail bs || optional_fails e

  -- the same in a WHEN or a THEN of branches
  pub branches_fail : Branches → Bool
  branches_fail no_more = false
  branches_fail (branch w t bs) = constant_fails w || constant_fails t || branches_fail bs

  -- the same in a part that may be absent
  pub optional_fails : Optional → Bool
  optional_fails absent = false
  optional_fails (present e) = constant_fails e
