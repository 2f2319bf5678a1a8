-- What the evaluator of constants promises: a node on the row of which no column can be read, with some parts as null (01, Strategies;
-- Where a call stops: 8).
use Rattle.std.specs.Prelude.{◌≡◌, Bool, true, false, not, List, ◌++◌, ℕ, ◌+◌, length}
use Rattle.scalar.specs.Types.{type_number}
use Rattle.scalar.specs.declared.types.DataType.{DataType}
use Rattle.scalar.specs.declared.value.Value.{Value}
use Rattle.scalar.specs.Entry.{Entry, boolean, Outcome, entry, on_entries}
use Rattle.scalar.specs.Not.{not_entry}
use Rattle.scalar.specs.Negative.{negative_entry}
use Rattle.scalar.specs.IsNotNull.{is_not_null_entry}
use Rattle.scalar.specs.Cast.{cast_entry}
use Rattle.scalar.specs.TryCast.{try_cast_entry}
use Rattle.scalar.specs.Compare.{equal_entry, less_entry}
use Rattle.scalar.specs.Value.{meaning, Gives}
use Rattle.rule.specs.Tree.{Expr, column, literal, negation, negative, is_not_null, cast, try_cast, equal, less, case_when, Branches, Optional, absent, present, branch_count}
use Rattle.rule.specs.Row.{Test, equals_test, with_base, eval, eval_branches, eval_else}
use Rattle.rule.specs.Constant.{columns_of, is_empty, unread, fails_alone, constant_fails}
use Rattle.rule.specs.Nullable.{replaced, replaced_branches, replaced_optional, may_pass}
use Rattle.rule.specs.Node.{NodeAt}
use Rattle.rule.specs.Walks.{branch_trees, optional_trees, TreesAt}

-- a tree whose parts that equal the bytes are replaced, itself kept
abbrev pub within : Expr → List ℕ → Expr
within (column c) bytes = column c
within (literal t v) bytes = literal t v
within (negation e) bytes = negation (replaced e bytes)
within (negative e) bytes = negative (replaced e bytes)
within (is_not_null e) bytes = is_not_null (replaced e bytes)
within (cast t e) bytes = cast t (replaced e bytes)
within (try_cast t e) bytes = try_cast t (replaced e bytes)
within (equal a b) bytes = equal (replaced a bytes) (replaced b bytes)
within (less a b) bytes = less (replaced a bytes) (replaced b bytes)
within (case_when b bs e) bytes = case_when (replaced_optional b bytes) (replaced_branches bs bytes) (replaced_optional e bytes)

-- a value means an outcome, whatever the table
abbrev pub Means : List ℕ → Value → Outcome → Type 0
Means rule r o = (table : List ℕ) → meaning rule table r ≡ o

-- what a node of one child makes of it, by its tag and its type byte
pub record OneGives (tag number : ℕ) (v r : Value) : Type 0 where
  pub of_not : tag ≡ 18 → Gives (λ e. entry (not_entry e)) v r
  pub of_negative : tag ≡ 19 → Gives (λ e. entry (negative_entry e)) v r
  pub of_is_not_null : tag ≡ 20 → Gives (λ e. entry (is_not_null_entry e)) v r
  pub of_cast : tag ≡ 21 → (t : DataType) → number ≡ type_number t → Gives (cast_entry t) v r
  pub of_try_cast : tag ≡ 22 → (t : DataType) → number ≡ type_number t → Gives (λ e. entry (try_cast_entry t e)) v r

-- what a comparison makes of two values, by its tag
pub record TwoGives (rule : List ℕ) (tag : ℕ) (a b r : Value) : Type 0 where
  pub of_equal : tag ≡ 23 → (x y : Outcome) → Means rule a x → Means rule b y → Means rule r (on_entries equal_entry x y)
  pub of_less : tag ≡ 24 → (x y : Outcome) → Means rule a x → Means rule b y → Means rule r (on_entries less_entry x y)

-- whether a WHEN passes or failed
abbrev pub PassGives : Value → Bool → Type 0
PassGives v r = (rule table : List ℕ) → r ≡ may_pass (meaning rule table v)

-- whatever node stands at a place, on the row of which no column can be read, with the parts that equal the target's bytes as null
pub record ConstantGives (rule : List ℕ) (start end : ℕ) (target : List ℕ) (depth : ℕ) (r : Value) : Type 0 where
  pub means : (e : Expr) → NodeAt rule start end e depth → Means rule r (eval (replaced e target) unread)

-- the same of a node that doesn't equal them, whose children nest at most so deep
pub record WithinGives (rule : List ℕ) (start end : ℕ) (target : List ℕ) (depth : ℕ) (r : Value) : Type 0 where
  pub means : (e : Expr) → NodeAt rule start end e (depth + 1) → Means rule r (eval (within e target) unread)

-- the same of a CASE
pub record CaseGives (rule : List ℕ) (start end : ℕ) (target : List ℕ) (depth : ℕ) (r : Value) : Type 0 where
  pub means : (b : Optional) (bs : Branches) (els : Optional) → NodeAt rule start end (case_when b bs els) (depth + 1)
      → Means rule r (eval (within (case_when b bs els) target) unread)

-- what a base gives on that row, and true where there is none
abbrev pub base_outcome : Optional → Outcome
base_outcome absent = entry (boolean true)
base_outcome (present b) = eval b unread

-- the same of a base
pub record BaseGives (rule : List ℕ) (at end : ℕ) (target : List ℕ) (depth : ℕ) (r : Value) : Type 0 where
  pub means : (b : Optional) → TreesAt rule at end (optional_trees b) depth → Means rule r (base_outcome (replaced_optional b target))

-- what ELSE gives on that row, with those parts as null
abbrev pub else_outcome : Optional → DataType → List ℕ → Outcome
else_outcome els to target = eval_else (replaced_optional els target) unread to

-- the same of ELSE
pub record ElseGives (rule : List ℕ) (at end : ℕ) (to : DataType) (target : List ℕ) (depth : ℕ) (r : Value) : Type 0 where
  pub means : (els : Optional) → TreesAt rule at end (optional_trees els) depth → Means rule r (else_outcome els to target)

-- what branches and ELSE behind them give on that row, with those parts as null
abbrev pub branches_outcome : Branches → Test → Optional → DataType → List ℕ → Outcome
branches_outcome bs test els to target = eval_branches (replaced_branches bs target) unread test (else_outcome els to target)

-- the same of branches and ELSE behind them, by a base
pub record BranchesGives (rule : List ℕ) (at end count : ℕ) (base : Value) (to : DataType) (target : List ℕ) (depth : ℕ) (r : Value) : Type 0 where
  pub means : (bs : Branches) (els : Optional) (b : Entry) → TreesAt rule at end (branch_trees bs ++ optional_trees els) depth → branch_count bs ≡ count → Means rule base (entry b)
      → Means rule r (branches_outcome bs (equals_test b) els to target)

-- the same by a base that may be null or have failed
pub record WithBaseGives (rule : List ℕ) (at end count : ℕ) (base : Value) (to : DataType) (target : List ℕ) (depth : ℕ) (r : Value) : Type 0 where
  pub means : (bs : Branches) (els : Optional) (o : Outcome) → TreesAt rule at end (branch_trees bs ++ optional_trees els) depth → branch_count bs ≡ count → Means rule base o
      → Means rule r (with_base o (λ test. branches_outcome bs test els to target) (else_outcome els to target))

-- a cast with no column under it whose value doesn't fit; no other node is
abbrev pub fails_here : Expr → Bool
fails_here (column c) = false
fails_here (literal t v) = false
fails_here (negation e) = false
fails_here (negative e) = false
fails_here (is_not_null e) = false
fails_here (cast t e) = fails_alone (cast t e)
fails_here (try_cast t e) = false
fails_here (equal a b) = false
fails_here (less a b) = false
fails_here (case_when b bs e) = false

-- whether whatever node stands at a place names a column
pub record ColumnGives (rule : List ℕ) (start end : ℕ) (r : Bool) : Type 0 where
  pub is : (e : Expr) (depth : ℕ) → NodeAt rule start end e depth → r ≡ not (is_empty (columns_of e))

-- whether whatever node stands at a place is a constant cast that fails
pub record FailsHereGives (rule : List ℕ) (start : ℕ) (r : Bool) : Type 0 where
  pub is : (end : ℕ) (e : Expr) → NodeAt rule start end e 8 → r ≡ fails_here e

-- whether a rule holds a constant cast that fails
pub record FailsGives (rule : List ℕ) (r : Bool) : Type 0 where
  pub is : (e : Expr) → NodeAt rule 0 (length rule) e 8 → r ≡ constant_fails e
