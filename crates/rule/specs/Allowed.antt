-- Which trees are rules: what document 01's limits and types allow (01, Bytes of a rule; Where a call stops: 1 to 8).
use Rattle.std.specs.Prelude.{◌≡◌, Bool, true, false, List, reverse, ℕ, suc, ◌≤◌, max, length}
use Rattle.layout.specs.Result.{ok}
use Rattle.layout.specs.Bytes.{Bytes}
use Rattle.rule.specs.Tree.{Expr, column, literal, negation, negative, is_not_null, cast, try_cast, equal, less, case_when, Branches, no_more, branch, Optional, absent, present}
use Rattle.rule.specs.TreeBytes.{bytes_of}
use Rattle.rule.specs.WellFormed.{well_formed}
use Rattle.rule.specs.Node.{depth_of}
use Rattle.rule.specs.Constant.{columns_of, constant_fails}
use Rattle.rule.specs.Reading.{depth_most, cases_most, read_rule}
use Rattle.rule.specs.Seen.{alike}

unfoldable mutual
  -- the most CASEs on a path of a tree (01, Bytes of a rule: depth)
  pub cases_of : Expr → ℕ
  cases_of (column c) = 0
  cases_of (literal t v) = 0
  cases_of (negation e) = cases_of e
  cases_of (negative e) = cases_of e
  cases_of (is_not_null e) = cases_of e
  cases_of (cast t e) = cases_of e
  cases_of (try_cast t e) = cases_of e
  cases_of (equal a b) = max (cases_of a) (cases_of b)
  cases_of (less a b) = max (cases_of a) (cases_of b)
  cases_of (case_when b bs e) = suc (max (optional_cases b) (max (branches_cases bs) (optional_cases e)))

  -- the most on a path of one of the branches
  pub branches_cases : Branches → ℕ
  branches_cases no_more = 0
  branches_cases (branch w t bs) = max (cases_of w) (max (cases_of t) (branches_cases bs))

  -- the most on a path of a part that may be absent
  pub optional_cases : Optional → ℕ
  optional_cases absent = 0
  optional_cases (present e) = cases_of e

-- the root is a CASE
abbrev pub is_case : Expr → Bool
is_case (column c) = false
is_case (literal t v) = false
is_case (negation e) = false
is_case (negative e) = false
is_case (is_not_null e) = false
is_case (cast t e) = false
is_case (try_cast t e) = false
is_case (equal a b) = false
is_case (less a b) = false
is_case (case_when b bs e) = true

-- a tree that is a rule: a CASE of at most 4,096 bytes, depth at most 8 with at most 3 CASEs on a path, every column's index a byte, every
-- literal of its type, 1 to 32 branches in a CASE, types that fit, no column unlike an earlier one of its index, no constant cast that fails
pub record RuleAllowed (e : Expr) : Type 0 where
  pub root : is_case e ≡ true
  pub few_bytes : length (bytes_of e) ≤ 4096
  pub depth : depth_of e ≤ depth_most
  pub cases : cases_of e ≤ cases_most
  pub formed : well_formed e ≡ true
  pub columns_alike : alike (reverse (columns_of e)) ≡ true
  pub casts_fit : constant_fails e ≡ false

-- a rule that document 01 allows is accepted, and read as its tree
abbrev pub RuleReadsBack : Type 0
RuleReadsBack = (e : Expr) → RuleAllowed e → read_rule (bytes_of e) ≡ ok e

-- an accepted rule is one that document 01 allows
abbrev pub RuleIsAllowed : Type 0
RuleIsAllowed = (rule : List ℕ) (e : Expr) → Bytes rule → read_rule rule ≡ ok e → RuleAllowed e
