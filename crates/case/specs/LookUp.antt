-- What looking up the rows' bases promises (01, Strategies: 6).
use Rattle.std.specs.Prelude.{◌≡◌, ℕ, ◌+◌, ◌<◌, ◌≤◌, Bool, true, List, ◌∷◌, ◌++◌, slice_index}
use Rattle.scalar.specs.declared.types.DataType.{DataType}
use Rattle.scalar.specs.declared.value.Value.{Value}
use Rattle.scalar.specs.Entry.{Outcome}
use Rattle.scalar.specs.Value.{meaning}
use Rattle.rule.specs.Tree.{Expr, Branches, Optional, branch_count}
use Rattle.rule.specs.Typing.{result_type}
use Rattle.rule.specs.Strategy.{drop_null, table_serves}
use Rattle.rule.specs.Row.{Row, with_base, eval, eval_branches, eval_else}
use Rattle.rule.specs.Walks.{branch_trees, optional_trees, TreesAt}
use Rattle.table.specs.declared.places.Table.{Table}
use Rattle.case.specs.Frame.{slot_at, Listed}
use Rattle.case.specs.Evaluation.{row_in, indexed}

-- whatever branches and ELSE stand at a place, where a table serves them: a row whose slot has its base gets the one-row outcome
abbrev pub LookedUp : List ℕ → ℕ → ℕ → ℕ → DataType → List ℕ → List ℕ → ℕ → Value → Type 0
LookedUp rule at end count to table w r v =
    (bs : Branches) (els : Optional) (depth : ℕ) (row : Row) → TreesAt rule at end (branch_trees bs ++ optional_trees els) depth → branch_count bs ≡ count
    → count ≤ 32 → table_serves bs (drop_null els) ≡ true → result_type bs ≡ to
    → meaning rule table v ≡ with_base (meaning rule table (slot_at w r)) (λ test. eval_branches bs row test (eval_else els row to)) (eval_else els row to)

-- the index that whatever base, branches and ELSE stand at a place give a row, where a table serves them: from 1, ELSE's behind them
pub record KeyedIndex (rule : List ℕ) (at end : ℕ) (table : List ℕ) (t : Table) (count : ℕ) (q : ℕ) (c : ℕ) : Type 0 where
  pub some : 0 < c
  pub few : c ≤ count + 1
  pub is : (x : Expr) (bs : Branches) (els : Optional) (depth : ℕ) (other : Outcome) → TreesAt rule at end (x ∷ (branch_trees bs ++ optional_trees els)) depth → branch_count bs ≡ count
      → table_serves bs (drop_null els) ≡ true
      → with_base (eval x (row_in table t q)) (λ test. eval_branches bs (row_in table t q) test other) other ≡ indexed bs (row_in table t q) other c

-- of each listed row, where it serves
pub record KeyedGive (rule : List ℕ) (at end : ℕ) (table : List ℕ) (t : Table) (count : ℕ) (w : List ℕ) (n : ℕ) (served : Bool) (values : List ℕ) : Type 0 where
  pub each : served ≡ true → (q : ℕ) → Listed w 0 n q → KeyedIndex rule at end table t count q (slice_index values q)
