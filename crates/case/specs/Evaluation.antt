-- What the evaluation over a list of rows asks and promises (01, One row; What changes shape). Each promise is of whatever tree stands at a place.
use Rattle.std.specs.Prelude.{◌≡◌, ℕ, zero, suc, ◌+◌, ◌*◌, ◌^◌, ◌<◌, ◌≤◌, Bool, true, false, ◌⊎◌, List, [], ◌∷◌, ◌++◌, length, ◌≢◌, slice_index}
use Rattle.std.proofs.Math.Option.{Option, some, none}
use Rattle.layout.specs.Bytes.{byte}
use Rattle.scalar.specs.declared.types.DataType.{DataType}
use Rattle.scalar.specs.declared.value.Value.{Value}
use Rattle.scalar.specs.Entry.{Entry, null, Outcome, entry, unfit, on_entries}
use Rattle.scalar.specs.Value.{meaning}
use Rattle.scalar.specs.TryCast.{try_cast_entry}
use Rattle.rule.specs.Tree.{Column, Expr, column, literal, negation, negative, is_not_null, cast, try_cast, equal, less, case_when, Branches, no_more, branch, Optional, absent, present, branch_count}
use Rattle.rule.specs.Row.{Row, Test, is_true_test, equals_test, passes, chosen, with_base, eval, eval_branches, eval_else}
use Rattle.rule.specs.Strategy.{is_column, is_literal, drop_null, table_serves}
use Rattle.rule.specs.Node.{NodeAt}
use Rattle.rule.specs.Walks.{branch_trees, optional_trees, TreesAt, BehindGives}
use Rattle.table.specs.declared.places.Table.{Table}
use Rattle.table.specs.Places.{table_in}
use Rattle.builder.specs.declared.ResultBuilder.{ResultBuilder}
use Rattle.builder.specs.Builder.{or_else}
use Rattle.case.specs.declared.rows.Op.{Op}
use Rattle.case.specs.declared.rows.Op.TheVariants.{Not, Negative, IsNotNull, Cast, TryCast}
use Rattle.case.specs.declared.settle.Leave.{Leave}
use Rattle.case.specs.declared.settle.Leave.TheVariants.{NullBase, TrueWhen, EqualWhen, Rest}
use Rattle.case.specs.Fits.{row_of}
use Rattle.case.specs.Frame.{slot_at, Rows, Listed}
use Rattle.case.specs.Choosing.{leaving, held_by, Open}
use Rattle.case.specs.Taking.{HasIndex, comparison}

-- what a call asks: the rows of the list rise and are rows of the table, and so many frames lie in the buffer
pub record Framed (table : List ℕ) (t : Table) (w : List ℕ) (n depth : ℕ) : Type 0 where
  pub list_ok : Rows w 0 n t.rows
  pub small : t.rows ≤ 512
  pub room : 6656 * depth ≤ length w
  pub short : length table < 2 ^ 32

-- what a call promises: what the slot of each listed row has is right for the row, and the list is unchanged
pub record Done (right : ℕ → Value → Type 0) (w : List ℕ) (n : ℕ) (w' : List ℕ) : Type 0 where
  pub long : length w' ≡ length w
  pub here : (r : ℕ) → Listed w 0 n r → right r (slot_at w' r)
  pub low : (j : ℕ) → j < 1024 → byte w' j ≡ byte w j

-- a row of the table
abbrev pub row_in : List ℕ → Table → ℕ → Row
row_in table t r = row_of (table_in table t) r

-- the outcome of whatever node stands at a place,
pub record ExprRight (rule : List ℕ) (start : ℕ) (end : ℕ) (table : List ℕ) (t : Table) (depth : ℕ) (r : ℕ) (v : Value) : Type 0 where
  pub is : (e : Expr) → NodeAt rule start end e depth → meaning rule table v ≡ eval e (row_in table t r)

-- of a literal there,
pub record LiteralRight (rule : List ℕ) (start : ℕ) (end : ℕ) (r : ℕ) (v : Value) : Type 0 where
  pub is : (d : DataType) (x : Entry) (depth : ℕ) → NodeAt rule start end (literal d x) depth → (table : List ℕ) → meaning rule table v ≡ entry x

-- of a column of the table,
pub record CellRight (table : List ℕ) (t : Table) (c : ℕ) (r : ℕ) (v : Value) : Type 0 where
  pub is : (rule : List ℕ) → meaning rule table v ≡ row_in table t r c

-- the operation of a node of one child
abbrev pub operator_of : Expr → Option Op
operator_of (column c) = none
operator_of (literal t v) = none
operator_of (negation e) = some Not
operator_of (negative e) = some Negative
operator_of (is_not_null e) = some IsNotNull
operator_of (cast t e) = some (Cast t)
operator_of (try_cast t e) = some (TryCast t)
operator_of (equal a b) = none
operator_of (less a b) = none
operator_of (case_when b bs e) = none

-- the operation of whatever node stands at a place
pub record OperatorGives (rule : List ℕ) (start : ℕ) (r : Op) : Type 0 where
  pub is : (end : ℕ) (e : Expr) (depth : ℕ) (o : Op) → NodeAt rule start end e depth → operator_of e ≡ some o → r ≡ o

-- the outcome of a node of one child, whose child nests at most so deep,
pub record UnaryRight (rule : List ℕ) (start : ℕ) (end : ℕ) (table : List ℕ) (t : Table) (depth : ℕ) (r : ℕ) (v : Value) : Type 0 where
  pub is : (e : Expr) (o : Op) → NodeAt rule start end e (depth + 1) → operator_of e ≡ some o → meaning rule table v ≡ eval e (row_in table t r)

-- of a comparison,
abbrev pub compares : Expr → Bool
compares (column c) = false
compares (literal t v) = false
compares (negation e) = false
compares (negative e) = false
compares (is_not_null e) = false
compares (cast t e) = false
compares (try_cast t e) = false
compares (equal a b) = true
compares (less a b) = true
compares (case_when b bs e) = false

-- of a comparison,
pub record BinaryRight (rule : List ℕ) (start : ℕ) (end : ℕ) (table : List ℕ) (t : Table) (depth : ℕ) (r : ℕ) (v : Value) : Type 0 where
  pub is : (e : Expr) → NodeAt rule start end e (depth + 1) → compares e ≡ true → meaning rule table v ≡ eval e (row_in table t r)

-- of a comparison whose left side is in the slots,
pub record AgainstRight (rule : List ℕ) (start : ℕ) (end : ℕ) (table : List ℕ) (t : Table) (depth : ℕ) (below : Bool) (w : List ℕ) (r : ℕ) (v : Value) : Type 0 where
  pub is : (e : Expr) → NodeAt rule start end e depth → meaning rule table v ≡ on_entries (comparison below) (meaning rule table (slot_at w r)) (eval e (row_in table t r))

-- of a CASE,
pub record CaseRight (served : Optional → Branches → Optional → Type 0) (rule : List ℕ) (start : ℕ) (end : ℕ) (table : List ℕ) (t : Table) (depth : ℕ) (r : ℕ) (v : Value) : Type 0 where
  pub is : (b : Optional) (bs : Branches) (els : Optional) → NodeAt rule start end (case_when b bs els) (depth + 1) → served b bs els
      → meaning rule table v ≡ eval (case_when b bs els) (row_in table t r)

-- whatever it is, or of the shape that a strategy takes (01, Strategies)
abbrev pub any_case : Optional → Branches → Optional → Type 0
any_case b bs els = Unit {0}

-- one without a base
abbrev pub without_base_case : Optional → Branches → Optional → Type 0
without_base_case b bs els = b ≡ absent

-- one with a base
abbrev pub with_base_case : Optional → Branches → Optional → Type 0
with_base_case b bs els = (x : Expr) × (b ≡ present x)

-- one branch, THEN a column, no ELSE
abbrev pub column_case : Optional → Branches → Optional → Type 0
column_case b bs els = (w : Expr) × (t : Expr) × (b ≡ absent) × (bs ≡ branch w t no_more) × (is_column t ≡ true) × (drop_null els ≡ absent)

-- one branch, THEN and ELSE literals
abbrev pub scalar_case : Optional → Branches → Optional → Type 0
scalar_case b bs els = (w : Expr) × (t : Expr) × (e : Expr) × (b ≡ absent) × (bs ≡ branch w t no_more) × (is_literal t ≡ true) × (els ≡ present e) × (is_literal e ≡ true)

-- one branch without a base
abbrev pub single_case : Optional → Branches → Optional → Type 0
single_case b bs els = (w : Expr) × (t : Expr) × (b ≡ absent) × (bs ≡ branch w t no_more)

-- a base, and branches and an ELSE that a lookup table serves
abbrev pub table_case : Optional → Branches → Optional → Type 0
table_case b bs els = (x : Expr) × (b ≡ present x) × (table_serves bs (drop_null els) ≡ true)

-- ---- choosing

-- what stands behind an index at a row, counted from 0: the THENs in order, ELSE, and failed
unfoldable pub result_at : Branches → Row → Outcome → ℕ → Outcome
result_at no_more row els zero = els
result_at no_more row els (suc k) = unfit
result_at (branch w t bs) row els zero = eval t row
result_at (branch w t bs) row els (suc k) = result_at bs row els k

-- the outcome of a row's index: 0 is none, and null; the others count from 1
abbrev pub indexed : Branches → Row → Outcome → ℕ → Outcome
indexed bs row els zero = entry null
indexed bs row els (suc k) = result_at bs row els k

-- what a WHEN is asked at a row whose slot has the base, if there is one
abbrev pub TestFor : Leave → Outcome → Test → Type 0
TestFor NullBase base test = ⊥
TestFor TrueWhen base test = test ≡ is_true_test
TestFor EqualWhen base test = (b : Entry) × (base ≡ entry b) × (test ≡ equals_test b)
TestFor Rest base test = ⊥

-- an outcome passes the test of a WHEN
abbrev pub passes_test : Test → Outcome → Bool
passes_test test (entry v) = passes test v
passes_test test unfit = false

-- the index with which a row leaves at a WHEN: 0 where it stays
pub record WhenRight (rule : List ℕ) (start : ℕ) (end : ℕ) (table : List ℕ) (t : Table) (depth : ℕ) (how : Leave) (index : ℕ) (failed : ℕ) (w : List ℕ) (q : ℕ) (c : ℕ) : Type 0 where
  pub is : (e : Expr) (test : Test) → NodeAt rule start end e depth → TestFor how (meaning rule table (slot_at w q)) test
      → c ≡ leaving (passes_test test) index failed (eval e (row_in table t q))

-- of the rows of the open list each stays or leaves, and is held; the slots and the lists before are unchanged
pub record Sifts (index : ℕ → ℕ → Type 0) (w : List ℕ) (left rows : ℕ) (b : ResultBuilder) (left' : ℕ) (b' : ResultBuilder) (w' : List ℕ) : Type 0 where
  pub long : length w' ≡ length w
  pub low : (j : ℕ) → j < 5632 → byte w' j ≡ byte w j
  pub still_open : Open b' w' left' rows
  pub stays : (q : ℕ) → Listed w' 5632 left' q → Listed w 5632 left q × index q 0
  pub each : (q : ℕ) → Listed w 5632 left q → Listed w' 5632 left' q ⊎ ((k : ℕ) × (held_by b' q ≡ some (suc k)) × index q (suc k))
  pub others : (q : ℕ) → (Listed w 5632 left q → ⊥) → held_by b' q ≡ held_by b q

-- the same, with ELSE for a row that no branch takes
abbrev pub indexed_or : Branches → Row → Outcome → ℕ → Outcome
indexed_or bs row els zero = els
indexed_or bs row els (suc k) = result_at bs row els k

-- the index that so many branches at a place give a row: 0 where none takes it
pub record BranchesIndex (rule : List ℕ) (at : ℕ) (table : List ℕ) (t : Table) (depth : ℕ) (how : Leave) (count : ℕ) (w : List ℕ) (q : ℕ) (c : ℕ) : Type 0 where
  pub is : (bs : Branches) (rest : List Expr) (end : ℕ) (test : Test) (els : Outcome) → TreesAt rule at end (branch_trees bs ++ rest) depth → branch_count bs ≡ count
      → TestFor how (meaning rule table (slot_at w q)) test
      → (c ≤ count + 2) × (eval_branches bs (row_in table t q) test els ≡ indexed_or bs (row_in table t q) els c)

-- the outcome of branches and ELSE at a place, by what the slots have,
pub record BranchesRight (rule : List ℕ) (at : ℕ) (end : ℕ) (table : List ℕ) (t : Table) (depth : ℕ) (how : Leave) (count : ℕ) (to : DataType) (w : List ℕ) (r : ℕ) (v : Value) : Type 0 where
  pub is : (bs : Branches) (els : Optional) (test : Test) → TreesAt rule at end (branch_trees bs ++ optional_trees els) depth → branch_count bs ≡ count
      → TestFor how (meaning rule table (slot_at w r)) test
      → meaning rule table v ≡ eval_branches bs (row_in table t r) test (eval_else els (row_in table t r) to)

-- ---- taking

-- what the slots of the rows of an index have is right, and the other listed rows' slots and the list are unchanged
pub record Takes (values : List ℕ) (k : ℕ) (right : ℕ → Value → Value → Type 0) (w : List ℕ) (n : ℕ) (w' : List ℕ) : Type 0 where
  pub long : length w' ≡ length w
  pub here : (r : ℕ) → Listed w 0 n r → HasIndex values k r → right r (slot_at w r) (slot_at w' r)
  pub others : (r : ℕ) → Listed w 0 n r → (HasIndex values k r → ⊥) → slot_at w' r ≡ slot_at w r
  pub low : (j : ℕ) → j < 1024 → byte w' j ≡ byte w j

-- the outcome of a row's index
pub record TakeRight (rule : List ℕ) (at : ℕ) (end : ℕ) (table : List ℕ) (t : Table) (depth : ℕ) (count : ℕ) (to : DataType) (values : List ℕ) (r : ℕ) (v : Value) : Type 0 where
  pub is : (bs : Branches) (els : Optional) → TreesAt rule at end (branch_trees bs ++ optional_trees els) depth → branch_count bs ≡ count → slice_index values r ≤ count + 2
      → meaning rule table v ≡ indexed bs (row_in table t r) (eval_else els (row_in table t r) to) (slice_index values r)

-- the outcome of a row: of one in the open list by the branches, of one that is held by its index
pub record MergedRight (rule : List ℕ) (at end : ℕ) (table : List ℕ) (t : Table) (depth : ℕ) (how : Leave) (count : ℕ) (to : DataType) (w : List ℕ) (left : ℕ) (b : ResultBuilder) (r : ℕ) (v : Value) : Type 0 where
  pub of_open : Listed w 5632 left r → BranchesRight rule at end table t depth how count to w r v
  pub of_held : (c : ℕ) → held_by b r ≡ some c → c ≤ count + 2 → (bs : Branches) (els : Optional) → TreesAt rule at end (branch_trees bs ++ optional_trees els) depth
      → branch_count bs ≡ count → meaning rule table v ≡ indexed bs (row_in table t r) (eval_else els (row_in table t r) to) c

-- the index of each row once ELSE has taken the rows of the open list; without ELSE they have none
pub record ElseValues (at end count : ℕ) (w : List ℕ) (left rows : ℕ) (b : ResultBuilder) (values : List ℕ) (w' : List ℕ) : Type 0 where
  pub long : length w' ≡ length w
  pub low : (j : ℕ) → j < 5632 → byte w' j ≡ byte w j
  pub taken : (at ≢ end) → (r : ℕ) → Listed w 5632 left r → slice_index values r ≡ count + 1
  pub none_taken : at ≡ end → (r : ℕ) → Listed w 5632 left r → slice_index values r ≡ 0
  pub others : (r : ℕ) → r < rows → (Listed w 5632 left r → ⊥) → slice_index values r ≡ or_else 0 (held_by b r)

-- what choosing asks: the open list and the builder, and so many frames beyond this one
pub record Ahead (table : List ℕ) (t : Table) (w : List ℕ) (left : ℕ) (b : ResultBuilder) (depth : ℕ) : Type 0 where
  pub deep : 0 < depth
  pub is_open : Open b w left t.rows
  pub room : 6656 * (depth + 1) ≤ length w
  pub short : length table < 2 ^ 32

-- the outcome of branches and ELSE behind a base, which the slot has
pub record BasedRight (rule : List ℕ) (at : ℕ) (end : ℕ) (table : List ℕ) (t : Table) (depth : ℕ) (count : ℕ) (to : DataType) (w : List ℕ) (r : ℕ) (v : Value) : Type 0 where
  pub is : (bs : Branches) (els : Optional) → TreesAt rule at end (branch_trees bs ++ optional_trees els) depth → branch_count bs ≡ count
      → meaning rule table v
      ≡ with_base (meaning rule table (slot_at w r)) (λ test. eval_branches bs (row_in table t r) test (eval_else els (row_in table t r) to)) (eval_else els (row_in table t r) to)

-- one of two literals behind a WHEN, which the slot has: THEN, or ELSE cast to the type of THEN
pub record ScalarsRight (rule : List ℕ) (at : ℕ) (end : ℕ) (w : List ℕ) (r : ℕ) (v : Value) : Type 0 where
  pub is : (d f : DataType) (x y : Entry) (depth : ℕ) → TreesAt rule at end (literal d x ∷ literal f y ∷ []) depth → (table : List ℕ)
      → meaning rule table v ≡ chosen is_true_test (meaning rule table (slot_at w r)) (entry x) (entry (try_cast_entry d y))

-- the column of a THEN behind a WHEN, which the slot has, else null
pub record CellsRight (rule : List ℕ) (at : ℕ) (table : List ℕ) (t : Table) (w : List ℕ) (r : ℕ) (v : Value) : Type 0 where
  pub is : (end depth : ℕ) (c : Column) → NodeAt rule at end (column c) depth
      → meaning rule table v ≡ chosen is_true_test (meaning rule table (slot_at w r)) (row_in table t r c.index) (entry null)

-- the same by where ELSE stands, behind so many branches
pub record ElseGives (rule : List ℕ) (at end count : ℕ) (w : List ℕ) (left rows : ℕ) (b : ResultBuilder) (values w' : List ℕ) : Type 0 where
  pub place : ℕ
  pub behind : BehindGives rule at (2 * count) place
  pub gives : ElseValues place end count w left rows b values w'
