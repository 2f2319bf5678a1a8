-- What the walks give that tell a rule's strategy and nullability, of whatever tree stands there (01, Strategies).
use Rattle.std.specs.Prelude.{◌≡◌, Bool, true, false, ◌&&◌, ◌||◌, List, [], ◌∷◌, ◌++◌, ℕ, ◌+◌, ◌≤◌, length}
use Rattle.rule.specs.Tree.{Expr, case_when, Branches, Optional, branch_count}
use Rattle.rule.specs.Nullable.{stripped, reachable, nullable, nullable_then, nullable_else}
use Rattle.rule.specs.declared.strategy.Strategy.{Strategy}
use Rattle.rule.specs.Strategy.{is_literal, strategy}
use Rattle.rule.specs.Node.{NodeAt}
use Rattle.rule.specs.Walks.{branch_trees, optional_trees, TreesAt}
use Rattle.rule.specs.Walked.{type_at}

-- so many trees are all literals
abbrev pub trees_literal : List Expr → Bool
trees_literal [] = true
trees_literal (e ∷ es) = is_literal e && trees_literal es

-- the strategy of whatever node stands at a place
pub record StrategyGives (rule : List ℕ) (start end : ℕ) (r : Strategy) : Type 0 where
  pub is : (e : Expr) (depth : ℕ) → NodeAt rule start end e depth → r ≡ strategy e

-- where whatever node stands at a place stands, stripped
pub record StrippedGives (rule : List ℕ) (at r : ℕ) : Type 0 where
  pub stand : (end : ℕ) (e : Expr) (depth : ℕ) → NodeAt rule at end e depth → NodeAt rule r end (stripped e) depth

-- whether a WHEN before a THEN is reachable
pub record ReachableGives (rule : List ℕ) (when then end : ℕ) (r : Bool) : Type 0 where
  pub is : (w t : Expr) → NodeAt rule when then w 8 → NodeAt rule then end t 8 → r ≡ reachable w t

-- whether whatever node stands at a place is nullable
pub record NullableGives (rule : List ℕ) (start end depth : ℕ) (r : Bool) : Type 0 where
  pub is : (e : Expr) → depth ≤ 8 → NodeAt rule start end e depth → r ≡ nullable e

-- one of several trees is nullable
abbrev pub any_nullable : List Expr → Bool
any_nullable [] = false
any_nullable (e ∷ es) = nullable e || any_nullable es

-- whether one of several trees at a place is nullable
pub record AnyGives (rule : List ℕ) (start end depth : ℕ) (r : Bool) : Type 0 where
  pub is : (es : List Expr) → depth ≤ 8 → TreesAt rule start end es depth → r ≡ any_nullable es

-- whether a CASE is nullable
pub record CaseNullableGives (rule : List ℕ) (start end depth : ℕ) (r : Bool) : Type 0 where
  pub is : (b : Optional) (bs : Branches) (els : Optional) → depth ≤ 8 → NodeAt rule start end (case_when b bs els) (depth + 1) → r ≡ nullable (case_when b bs els)

-- whether it is by its branches and what is behind them, the result's type being that of the node at `start`
pub record BranchesNullableGives (rule : List ℕ) (start at end count : ℕ) (base : Bool) (depth : ℕ) (r : Bool) : Type 0 where
  pub is : (bs : Branches) (els : Optional) → depth ≤ 8 → branch_count bs ≡ count → TreesAt rule at end (branch_trees bs ++ optional_trees els) depth
      → r ≡ (nullable_then bs base || nullable_else els (type_at rule start))

-- whether it is by a branch alone
pub record BranchNullableGives (rule : List ℕ) (when then end : ℕ) (base : Bool) (depth : ℕ) (r : Bool) : Type 0 where
  pub is : (w t : Expr) → depth ≤ 8 → NodeAt rule when then w depth → NodeAt rule then end t depth → r ≡ (nullable t && (base || reachable w t))

-- whether a rule is nullable
pub record RuleNullableGives (rule : List ℕ) (r : Bool) : Type 0 where
  pub is : (e : Expr) → NodeAt rule 0 (length rule) e 8 → r ≡ nullable e
