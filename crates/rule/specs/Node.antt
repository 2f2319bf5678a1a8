-- Where a node of an accepted rule stands: a place of the rule's bytes that holds the bytes of a tree.
use Rattle.std.specs.Prelude.{◌≡◌, true, List, ℕ, suc, ◌≤◌, max, length}
use Rattle.layout.specs.Bytes.{Bytes, part}
use Rattle.rule.specs.Tree.{Expr, column, literal, negation, negative, is_not_null, cast, try_cast, equal, less, case_when, Branches, no_more, branch, Optional, absent, present}
use Rattle.rule.specs.TreeBytes.{bytes_of}
use Rattle.rule.specs.WellFormed.{well_formed}

unfoldable mutual
  -- how deep a tree nests; leaves count (01, Bytes of a rule: depth)
  pub depth_of : Expr → ℕ
  depth_of (column c) = 1
  depth_of (literal t v) = 1
  depth_of (negation e) = suc (depth_of e)
  depth_of (negative e) = suc (depth_of e)
  depth_of (is_not_null e) = suc (depth_of e)
  depth_of (cast t e) = suc (depth_of e)
  depth_of (try_cast t e) = suc (depth_of e)
  depth_of (equal a b) = suc (max (depth_of a) (depth_of b))
  depth_of (less a b) = suc (max (depth_of a) (depth_of b))
  depth_of (case_when b bs e) = suc (max (optional_depth b) (max (branches_depth bs) (optional_depth e)))

  -- how deep the WHENs and THENs of branches nest
  pub branches_depth : Branches → ℕ
  branches_depth no_more = 0
  branches_depth (branch w t bs) = max (depth_of w) (max (depth_of t) (branches_depth bs))

  -- how deep a part that may be absent nests
  pub optional_depth : Optional → ℕ
  optional_depth absent = 0
  optional_depth (present e) = depth_of e

-- the node of a tree stands at a place of a rule, and nests at most so deep
pub record NodeAt (rule : List ℕ) (start end : ℕ) (e : Expr) (depth : ℕ) : Type 0 where
  pub all_bytes : Bytes rule
  pub few : length rule ≤ 4096
  pub ordered : start ≤ end
  pub inside : end ≤ length rule
  pub is : part rule start end ≡ bytes_of e
  pub deep : depth_of e ≤ depth
  pub formed : well_formed e ≡ true
