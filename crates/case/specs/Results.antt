-- The literals among a CASE's THENs and its ELSE, by the index that a row has for them: they are put before the other results are taken.
use Rattle.std.specs.Prelude.{◌≡◌, ℕ, zero, suc, ◌+◌, ◌*◌, ◌<◌, ◌≤◌, Bool, true, ◌⊎◌, List, ◌++◌, length, ◌≢◌, slice_index, slice_index_or}
use Rattle.scalar.specs.declared.types.DataType.{DataType}
use Rattle.scalar.specs.declared.value.Value.{Value}
use Rattle.scalar.specs.Entry.{Outcome}
use Rattle.scalar.specs.Value.{meaning}
use Rattle.rule.specs.Tree.{Expr, Branches, no_more, branch, Optional, absent, present, branch_count}
use Rattle.rule.specs.Row.{Row, eval, eval_else}
use Rattle.rule.specs.Strategy.{is_literal}
use Rattle.rule.specs.Node.{NodeAt}
use Rattle.rule.specs.Walks.{branch_trees, optional_trees, TreesAt, BehindGives}
use Rattle.table.specs.declared.places.Table.{Table}
use Rattle.case.specs.LookUpTables.{value_at}
use Rattle.case.specs.Evaluation.{row_in, result_at, indexed}

-- an ELSE that is not there, or a literal
abbrev pub else_known : Optional → Bool
else_known absent = true
else_known (present e) = is_literal e

-- whether what stands behind an index, counted from 0, is known without the row: a literal, no ELSE, or failed
unfoldable pub result_known : Branches → Optional → ℕ → Bool
result_known no_more els zero = else_known els
result_known no_more els (suc k) = true
result_known (branch w t bs) els zero = is_literal t
result_known (branch w t bs) els (suc k) = result_known bs els k

-- the same of a row's index: 0 is none, and null
abbrev pub index_known : Branches → Optional → ℕ → Bool
index_known bs els zero = true
index_known bs els (suc k) = result_known bs els k

-- the outcome of a row's index, where it is known without the row
pub record StartRight (rule : List ℕ) (at end count : ℕ) (to : DataType) (values : List ℕ) (r : ℕ) (v : Value) : Type 0 where
  pub is : (bs : Branches) (els : Optional) (depth : ℕ) (row : Row) (table : List ℕ) → TreesAt rule at end (branch_trees bs ++ optional_trees els) depth → branch_count bs ≡ count
      → slice_index values r ≤ count + 2 → index_known bs els (slice_index values r) ≡ true → meaning rule table v ≡ indexed bs row (eval_else els row to) (slice_index values r)

-- ---- the arrays: null at 0, the literals at their indices, and null where there is none

-- a result is there by its index: it is known without the row, or the arrays have a kind for it
abbrev pub Held : Bool → ℕ → Type 0
Held known kind = (known ≡ true) ⊎ (kind ≢ 0)

-- the literals among the first i of so many THENs at a place, and where what is behind those stands
pub record ThensRead (rule : List ℕ) (at count i : ℕ) (kinds payloads : List ℕ) (place : ℕ) : Type 0 where
  pub kinds_long : length kinds ≡ 258
  pub payloads_long : length payloads ≡ 258
  pub null_first : slice_index_or kinds 0 0 ≡ 0
  pub unread : (j : ℕ) → i < j → slice_index kinds j ≡ 0
  pub behind : BehindGives rule at (2 * i) place
  pub held : (bs : Branches) (els : Optional) (rest : List Expr) (end depth : ℕ) (row : Row) (o : Outcome) (table : List ℕ) → TreesAt rule at end (branch_trees bs ++ rest) depth → branch_count bs ≡ count
      → (j : ℕ) → j < i → Held (result_known bs els j) (slice_index kinds (suc j)) → meaning rule table (value_at kinds payloads (suc j)) ≡ result_at bs row o j

-- those of all and of ELSE behind them, and a failure
pub record ResultsRead (rule : List ℕ) (at end count : ℕ) (to : DataType) (kinds payloads : List ℕ) : Type 0 where
  pub kinds_long : length kinds ≡ 258
  pub payloads_long : length payloads ≡ 258
  pub null_first : slice_index_or kinds 0 0 ≡ 0
  pub failed : slice_index_or kinds (count + 2) 0 ≡ 7
  pub held : (bs : Branches) (els : Optional) (depth : ℕ) (row : Row) (table : List ℕ) → TreesAt rule at end (branch_trees bs ++ optional_trees els) depth → branch_count bs ≡ count
      → (j : ℕ) → j ≤ count → Held (result_known bs els j) (slice_index kinds (suc j)) → meaning rule table (value_at kinds payloads (suc j)) ≡ result_at bs row (eval_else els row to) j

-- the value of a row has the kind and the payload at the row's index
abbrev pub PutBy : List ℕ → List ℕ → List ℕ → ℕ → Value → Type 0
PutBy kinds payloads values r v = v ≡ value_at kinds payloads (slice_index values r)

-- ---- the other results

-- the outcome of a THEN; where it is a literal, the slot has it already
pub record ThenRight (rule : List ℕ) (start end : ℕ) (table : List ℕ) (t : Table) (depth : ℕ) (r : ℕ) (old : Value) (v : Value) : Type 0 where
  pub is : (e : Expr) → NodeAt rule start end e depth → (is_literal e ≡ true → meaning rule table old ≡ eval e (row_in table t r)) → meaning rule table v ≡ eval e (row_in table t r)

-- the outcome of ELSE; where it is a literal, or there is none, the slot has it already
pub record ElseRight (rule : List ℕ) (at : ℕ) (end : ℕ) (table : List ℕ) (t : Table) (depth : ℕ) (to : DataType) (r : ℕ) (old : Value) (v : Value) : Type 0 where
  pub is : (els : Optional) → TreesAt rule at end (optional_trees els) depth → (else_known els ≡ true → meaning rule table old ≡ eval_else els (row_in table t r) to)
      → meaning rule table v ≡ eval_else els (row_in table t r) to
