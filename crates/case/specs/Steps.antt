-- Steps: WHENs that compare the numbers of a column with a literal. A row's branch is found from one number of the row; what is promised of it is the
-- one-row outcome (01, One row: branches are tried in order; equal and less).
use Rattle.std.specs.Prelude.{◌≡◌, ℕ, zero, suc, ◌+◌, ◌-◌, ◌<◌, ◌≤◌, Bool, true, false, cond, ◌⊎◌, List, ◌++◌, length, ◌==◌, nat_le, nat_lt, slice_index, Option, Some, None}
use Rattle.scalar.specs.declared.types.DataType.{DataType}
use Rattle.scalar.specs.declared.types.DataType.TheVariants.{Boolean}
use Rattle.scalar.specs.declared.order.Key.{Key}
use Rattle.scalar.specs.declared.order.Key.TheVariants as Keys
use Rattle.scalar.specs.Types.{type_number}
use Rattle.scalar.specs.Entry.{Entry, null, is_true_entry, Outcome, entry, on_entries}
use Rattle.scalar.specs.Compare.{equal_entry, less_entry}
use Rattle.scalar.specs.Order.{Numbered}
use Rattle.rule.specs.Tree.{Expr, literal, Branches, no_more, branch, branch_count}
use Rattle.rule.specs.Row.{Row, is_true_test, eval, eval_branches}
use Rattle.rule.specs.Node.{NodeAt}
use Rattle.rule.specs.Walks.{branch_trees, TreesAt}
use Rattle.table.specs.declared.places.ColumnPlace.{ColumnPlace}
use Rattle.table.specs.declared.places.Table.{Table}
use Rattle.table.specs.Column.{valid_in, value_at, entry_at}
use Rattle.table.specs.Places.{column_in}
use Rattle.case.specs.declared.steps.Step.{Step}
use Rattle.case.specs.declared.steps.Comparison.{Comparison}
use Rattle.case.specs.declared.steps.Comparison.TheVariants as Comparisons
use Rattle.case.specs.Frame.{Listed}
use Rattle.case.specs.LookUpTables.{found}
use Rattle.case.specs.Evaluation.{row_in, indexed}

-- the index that whatever branches stand at a place give a row: from 1, ELSE's behind them
pub record StepIndex (rule : List ℕ) (at : ℕ) (table : List ℕ) (t : Table) (count : ℕ) (q : ℕ) (c : ℕ) : Type 0 where
  pub some : 0 < c
  pub few : c ≤ count + 1
  pub is : (bs : Branches) (rest : List Expr) (end depth : ℕ) (els : Outcome) → TreesAt rule at end (branch_trees bs ++ rest) depth → branch_count bs ≡ count
      → eval_branches bs (row_in table t q) is_true_test els ≡ indexed bs (row_in table t q) els c

-- the index of each listed row, where every WHEN is a step on one column
pub record StepsGive (rule : List ℕ) (at : ℕ) (table : List ℕ) (t : Table) (count : ℕ) (w : List ℕ) (n : ℕ) (served : Bool) (values : List ℕ) : Type 0 where
  pub each : served ≡ true → (q : ℕ) → Listed w 0 n q → StepIndex rule at table t count q (slice_index values q)

-- ---- one step

-- the number of a comparison: equal and less by their nodes' tags, the literal less than the column by the tag of no node
abbrev pub comparison_tag : Comparison → ℕ
comparison_tag Comparisons.Equal = 23
comparison_tag Comparisons.Less = 24
comparison_tag Comparisons.More = 26

-- a step by how its literal is compared; none where that is not by a number
abbrev pub step_of : Comparison → ℕ → Key → Option Step
step_of comparison column Keys.Null = None
step_of comparison column Keys.Failed = None
step_of comparison column (Keys.Number kind key) = Some (record { comparison = comparison; column = column; kind = kind; key = key })
step_of comparison column Keys.Text = None

-- what a column has, beside an entry that goes by a number
pub record Sides (column kind key : ℕ) (a b : Expr) : Type 0 where
  pub value : Entry
  pub numbered : Numbered kind key value
  pub left : (row : Row) → eval a row ≡ row column
  pub right : (row : Row) → eval b row ≡ entry value

-- the tag, and whatever nodes stand at two places are such sides
pub record SidesGive (rule : List ℕ) (tag at literal end : ℕ) (s : Step) : Type 0 where
  pub tag_is : comparison_tag s.comparison ≡ tag
  pub is : (a b : Expr) (behind depth : ℕ) → NodeAt rule at behind a depth → NodeAt rule literal end b depth → Sides s.column s.kind s.key a b

-- what a step says of an entry beside its literal: less (24), the literal is less (26, the tag of no node), equal
abbrev pub step_entry : ℕ → Entry → Entry → Entry
step_entry tag e value = cond (tag == 24) (less_entry e value) (cond (tag == 26) (less_entry value e) (equal_entry e value))

-- a WHEN that compares what a column has with an entry that goes by a number
pub record StepWhen (tag column kind key : ℕ) (e : Expr) : Type 0 where
  pub value : Entry
  pub numbered : Numbered kind key value
  pub is : (row : Row) → eval e row ≡ on_entries (step_entry tag) (row column) (entry value)

-- whatever node stands from a place to a place is such a one
pub record StepGives (rule : List ℕ) (start end : ℕ) (s : Step) : Type 0 where
  pub is : (e : Expr) (depth : ℕ) → NodeAt rule start end e depth → StepWhen (comparison_tag s.comparison) s.column s.kind s.key e

-- ---- the steps of a CASE

-- the WHEN of a branch; null where there is none
unfoldable pub when_at : Branches → ℕ → Expr
when_at no_more k = literal Boolean null
when_at (branch w t bs) zero = w
when_at (branch w t bs) (suc k) = when_at bs k

-- each WHEN of whatever branches stand at a place is a step on the column
pub record StepsAt (rule : List ℕ) (at count column kind : ℕ) (tags keys : List ℕ) : Type 0 where
  pub each : (bs : Branches) (rest : List Expr) (end depth : ℕ) → TreesAt rule at end (branch_trees bs ++ rest) depth → branch_count bs ≡ count
      → (k : ℕ) → k < count → StepWhen (slice_index tags k) column kind (slice_index keys k) (when_at bs k)

-- ---- the index of a row

-- a number passes a step: it is less than the key (24), the key is less (26), or they are equal
abbrev pub step_passes : ℕ → ℕ → ℕ → Bool
step_passes tag key x = cond (tag == 24) (nat_lt x key) (cond (tag == 26) (nat_lt key x) (x == key))

-- the index of the first of so many steps that a number passes, from 1, or the ELSE index
abbrev pub step_index : List ℕ → List ℕ → ℕ → ℕ → ℕ
step_index tags keys count x = found (λ k. step_passes (slice_index tags k) (slice_index keys k) x) (λ k. k + 1) 0 count (count + 1)

-- the index of an entry: ELSE's of null, any other's by the number that it goes by
abbrev pub EntryIndex : List ℕ → List ℕ → ℕ → ℕ → Entry → ℕ → Type 0
EntryIndex tags keys count kind e c = ((e ≡ null) × (c ≡ count + 1)) ⊎ ((x : ℕ) × Numbered kind x e × (c ≡ step_index tags keys count x))

-- the number of a row's value, of any type but text
pub record KeyAt (kind : DataType) (values : List ℕ) (row x : ℕ) : Type 0 where
  pub is : type_number kind ≤ 4 → (offsets : List ℕ) → Numbered (type_number kind) x (value_at kind offsets values row)

-- of each of the first rows
pub record KeysAt (kind : DataType) (values : List ℕ) (rows : ℕ) (keys : List ℕ) : Type 0 where
  pub each : (r : ℕ) → r < rows → KeyAt kind values r (slice_index keys r)

-- the greatest number of 64 bits
abbrev pub number_most : ℕ
number_most = 18446744073709551615

-- the least number that passes a step; where none does, it is above the greatest
abbrev pub step_low : ℕ → ℕ → ℕ
step_low tag key = cond (tag == 24) (cond (key == 0) 1 0) (cond (tag == 26) (cond (nat_lt key number_most) (key + 1) 1) key)

-- the greatest number that passes a step
abbrev pub step_high : ℕ → ℕ → ℕ
step_high tag key = cond (tag == 24) (cond (key == 0) 0 (key - 1)) (cond (tag == 26) (cond (nat_lt key number_most) number_most 0) key)

-- of each of so many steps
pub record SpansOf (tags keys : List ℕ) (count : ℕ) (lows highs : List ℕ) : Type 0 where
  pub lows_long : length lows ≡ 32
  pub highs_long : length highs ≡ 32
  pub low_is : (k : ℕ) → k < count → slice_index lows k ≡ step_low (slice_index tags k) (slice_index keys k)
  pub high_is : (k : ℕ) → k < count → slice_index highs k ≡ step_high (slice_index tags k) (slice_index keys k)

-- the spans of the steps that the WHENs are of whatever branches stand at a place
pub record SpansRead (rule : List ℕ) (at count column kind : ℕ) (lows highs : List ℕ) : Type 0 where
  pub tags : List ℕ
  pub keys : List ℕ
  pub steps : StepsAt rule at count column kind tags keys
  pub spans : SpansOf tags keys count lows highs

-- a number lies between two
abbrev pub in_span : ℕ → ℕ → ℕ → Bool
in_span low high x = cond (nat_lt x low) false (nat_le x high)

-- the index of the first of so many spans that a number lies in, from 1, or the ELSE index
abbrev pub span_index : List ℕ → List ℕ → ℕ → ℕ → ℕ
span_index lows highs count x = found (λ k. in_span (slice_index lows k) (slice_index highs k) x) (λ k. k + 1) 0 count (count + 1)

-- the index of a row by its number: ELSE's of a null
abbrev pub row_span : List ℕ → List ℕ → List ℕ → List ℕ → ℕ → ℕ → ℕ
row_span numbers validity lows highs count row = cond (valid_in validity row) (span_index lows highs count (slice_index numbers row)) (count + 1)

-- the same by one span
abbrev pub one_span : List ℕ → List ℕ → ℕ → ℕ → ℕ → ℕ
one_span numbers validity low high row = cond (valid_in validity row) (cond (in_span low high (slice_index numbers row)) 1 2) 2

-- the index of a row's entry
pub record RowIndex (kind : DataType) (values validity tags keys : List ℕ) (count row c : ℕ) : Type 0 where
  pub is : type_number kind ≤ 4 → (offsets : List ℕ) → EntryIndex tags keys count (type_number kind) (cond (valid_in validity row) (value_at kind offsets values row) null) c

-- the index of each row of the list at a place is right
pub record RowsIndexed (right : ℕ → ℕ → Type 0) (w : List ℕ) (at n : ℕ) (indices : List ℕ) : Type 0 where
  pub each : (q : ℕ) → Listed w at n q → right q (slice_index indices q)

-- the index that whatever branches stand at a place give a row that has in a column what the table has there
pub record ColumnIndex (rule : List ℕ) (at : ℕ) (table : List ℕ) (column : ℕ) (place : ColumnPlace) (count q c : ℕ) : Type 0 where
  pub some : 0 < c
  pub few : c ≤ count + 1
  pub is : (bs : Branches) (rest : List Expr) (end depth : ℕ) (row : Row) (els : Outcome) → TreesAt rule at end (branch_trees bs ++ rest) depth → branch_count bs ≡ count
      → row column ≡ entry (entry_at (column_in table place) q) → eval_branches bs row is_true_test els ≡ indexed bs row els c

-- the index of each listed row, where every WHEN is a step on the column
pub record ColumnGives (rule : List ℕ) (at : ℕ) (table : List ℕ) (column : ℕ) (place : ColumnPlace) (count : ℕ) (w : List ℕ) (n : ℕ) (served : Bool) (values : List ℕ) : Type 0 where
  pub each : served ≡ true → (q : ℕ) → Listed w 0 n q → ColumnIndex rule at table column place count q (slice_index values q)

-- ---- one WHEN

-- the index of a row by a WHEN: 1 where it is true, 2 where it is not
pub record WhenIndex (e : Expr) (row : Row) (c : ℕ) : Type 0 where
  pub value : Entry
  pub is : eval e row ≡ entry value
  pub index : c ≡ cond (is_true_entry value) 1 2

-- by whatever WHEN is this step, at a row that has in the column what the table has there
pub record StepRow (s : Step) (table : List ℕ) (place : ColumnPlace) (q c : ℕ) : Type 0 where
  pub is : (e : Expr) (row : Row) → StepWhen (comparison_tag s.comparison) s.column s.kind s.key e → row s.column ≡ entry (entry_at (column_in table place) q) → WhenIndex e row c

-- at each row of a list
pub record StepRows (s : Step) (table : List ℕ) (place : ColumnPlace) (w : List ℕ) (at n : ℕ) (served : Bool) (indices : List ℕ) : Type 0 where
  pub each : served ≡ true → (q : ℕ) → Listed w at n q → StepRow s table place q (slice_index indices q)

-- by whatever WHEN stands at a place of the rule, at each row of a list, where that is asked
pub record WhenGives (asked : Bool) (rule : List ℕ) (start end : ℕ) (table : List ℕ) (t : Table) (w : List ℕ) (at n : ℕ) (served : Bool) (values : List ℕ) : Type 0 where
  pub wanted : served ≡ true → asked ≡ true
  pub each : served ≡ true → (q : ℕ) → Listed w at n q → (e : Expr) (depth : ℕ) → NodeAt rule start end e depth → WhenIndex e (row_in table t q) (slice_index values q)
