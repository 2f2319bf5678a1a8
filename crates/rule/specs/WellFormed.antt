-- What reading tests at every node of a tree: its types, its literals, its columns, its counts (01, Bytes of a rule).
use Rattle.std.specs.Prelude.{Bool, true, ◌&&◌, leb, ltb}
use Rattle.scalar.specs.Entry.{of_type}
use Rattle.rule.specs.Tree.{Expr, column, literal, negation, negative, is_not_null, cast, try_cast, equal, less, case_when, Branches, no_more, branch, Optional, absent, present, branch_count}
use Rattle.rule.specs.Typing.{node_typed}

-- a CASE has 1 to 32 branches
abbrev pub count_fits : Branches → Bool
count_fits bs = ltb 0 (branch_count bs) && leb (branch_count bs) 32

unfoldable mutual
  -- a column's index is a byte, the types of every node's children fit, every literal is of its type, every CASE has 1 to 32 branches
  pub well_formed : Expr → Bool
  well_formed (column c) = ltb c.index 256
  well_formed (literal t v) = of_type t v
  well_formed (negation e) = node_typed (negation e) && well_formed e
  well_formed (negative e) = node_typed (negative e) && well_formed e
  well_formed (is_not_null e) = node_typed (is_not_null e) && well_formed e
  well_formed (cast t e) = node_typed (cast t e) && well_formed e
  well_formed (try_cast t e) = node_typed (try_cast t e) && well_formed e
  well_formed (equal a b) = node_typed (equal a b) && (well_formed a && well_formed b)
  well_formed (less a b) = node_typed (less a b) && (well_formed a && well_formed b)
  well_formed (case_when b bs e) = count_fits bs && (node_typed (case_when b bs e) && (well_formed_optional b && (well_formed_branches bs && well_formed_optional e)))

  -- the same of the WHENs and THENs of branches
  pub well_formed_branches : Branches → Bool
  well_formed_branches no_more = true
  well_formed_branches (branch w t bs) = well_formed w && (well_formed t && well_formed_branches bs)

  -- the same of a part that may be absent
  pub well_formed_optional : Optional → Bool
  well_formed_optional absent = true
  well_formed_optional (present e) = well_formed e
