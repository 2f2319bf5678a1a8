-- The classes of a table's rows, where every result of the rule is a number literal or, as a THEN, a CASE of number literals: the index of the literal that is the row's entry
-- (01, What changes shape: one index a row).
use Rattle.std.specs.Prelude.{◌≡◌, ℕ, zero, suc, ◌+◌, ◌<◌, ◌≤◌, Bool, true, false, cond, List, ◌++◌, length, ◌==◌, ◌≢◌, slice_index, slice_index_or, Option, Some, IfSome}
use Rattle.layout.specs.Bytes.{byte}
use Rattle.scalar.specs.declared.types.DataType.{DataType}
use Rattle.scalar.specs.Entry.{Outcome}
use Rattle.scalar.specs.Value.{meaning}
use Rattle.rule.specs.Tree.{Expr, Branches, Optional, branch_count}
use Rattle.rule.specs.Row.{Row, eval, eval_else}
use Rattle.rule.specs.Node.{NodeAt}
use Rattle.rule.specs.Walks.{branch_trees, optional_trees, TreesAt, EndGives, TypeGives}
use Rattle.table.specs.declared.places.Table.{Table}
use Rattle.writer.specs.Write.{class_value, ClassesAsk}
use Rattle.case.specs.declared.results.Results.{Results}
use Rattle.case.specs.Frame.{row_at, Listed}
use Rattle.case.specs.LookUpTables.{value_at}
use Rattle.case.specs.Evaluation.{row_in, result_at, indexed}
use Rattle.case.specs.LookUp.{KeyedGive}
use Rattle.case.specs.Results.{ResultsRead}
use Rattle.case.specs.Steps.{StepsGive}
use Rattle.case.specs.Readings.{RowsRight}

-- what is asked: the list at the front of the buffer is all rows of the table
pub record RootAsks (t : Table) (w table : List ℕ) : Type 0 where
  pub few : t.rows ≤ 512
  pub room : 13312 ≤ length w
  pub short : length table ≤ 65536
  pub rows_are : (i : ℕ) → i < t.rows → row_at w 0 i ≡ i

-- the literals among the root CASE's results, ELSE's of a kind, and where its branches stand
pub record RootRead (rule : List ℕ) (code place : ℕ) (kinds payloads : List ℕ) : Type 0 where
  pub type : DataType
  pub type_is : TypeGives rule 0 type
  pub read : ResultsRead rule place (length rule) (byte rule 4) type kinds payloads
  pub else_kind : slice_index kinds (byte rule 4 + 1) ≡ code

-- the branches and ELSE of a CASE, which stand at a place, and the outcome of a row by an index of them
pub record CaseTree (rule : List ℕ) (start end : ℕ) (table : List ℕ) (t : Table) (place depth q c : ℕ) (e : Expr) : Type 0 where
  pub bs : Branches
  pub els : Optional
  pub trees : TreesAt rule place end (branch_trees bs ++ optional_trees els) depth
  pub counted : branch_count bs ≡ byte rule (start + 4)
  pub outcome : (to : DataType) → TypeGives rule start to → eval e (row_in table t q) ≡ indexed bs (row_in table t q) (eval_else els (row_in table t q) to) c

-- an index of whatever CASE stands from a place to a place: of a branch, from 1, or of ELSE behind them
pub record CaseIndex (rule : List ℕ) (start end : ℕ) (table : List ℕ) (t : Table) (place q c : ℕ) : Type 0 where
  pub some : 0 < c
  pub few : c ≤ byte rule (start + 4) + 1
  pub is : (e : Expr) (depth : ℕ) → NodeAt rule start end e (depth + 1) → CaseTree rule start end table t place depth q c e

-- of each listed row, where a place is found
pub record CaseValues (rule : List ℕ) (start end : ℕ) (table : List ℕ) (t : Table) (w : List ℕ) (n : ℕ) (values : List ℕ) (found : Option ℕ) : Type 0 where
  pub each : IfSome found (λ place. (q : ℕ) → Listed w 0 n q → CaseIndex rule start end table t place q (slice_index values q))

-- the index of each listed row by steps at a place, where that is found
pub record CaseSteps (rule : List ℕ) (at count : ℕ) (table : List ℕ) (t : Table) (w : List ℕ) (n : ℕ) (values : List ℕ) (found : Option ℕ) : Type 0 where
  pub steps : IfSome found (λ place. (place ≡ at) × StepsGive rule at table t count w n true values)

-- the index of each listed row by the keys behind a base at a place, where the place behind that is found
pub record CaseKeys (rule : List ℕ) (at end count : ℕ) (table : List ℕ) (t : Table) (w : List ℕ) (n : ℕ) (values : List ℕ) (found : Option ℕ) : Type 0 where
  pub keys : IfSome found (λ place. EndGives rule at place × KeyedGive rule at end table t count w n true values)

-- ---- the literals of the classes

-- so many classes behind a class are all of a kind
unfoldable pub all_of_kind : List ℕ → ℕ → ℕ → ℕ → Bool
all_of_kind kinds k from zero = true
all_of_kind kinds k from (suc n) = cond (slice_index kinds (from + suc n) == k) (all_of_kind kinds k from n) false

-- the literals go on: what they have up to a class is unchanged
pub record Grown (from : ℕ) (kinds payloads kinds' payloads' : List ℕ) : Type 0 where
  pub kinds_same : (c : ℕ) → c ≤ from → slice_index kinds' c ≡ slice_index kinds c
  pub payloads_same : (c : ℕ) → c ≤ from → slice_index payloads' c ≡ slice_index payloads c

-- so many kinds and payloads, from 1, are now those behind a class
pub record BlockCopied (from many : ℕ) (block-kinds block-payloads kinds payloads kinds' payloads' : List ℕ) : Type 0 where
  pub grown : Grown from kinds payloads kinds' payloads'
  pub kinds_are : (k : ℕ) → 1 ≤ k → k ≤ many → slice_index kinds' (from + k) ≡ slice_index block-kinds k
  pub payloads_are : (k : ℕ) → 1 ≤ k → k ≤ many → slice_index payloads' (from + k) ≡ slice_index block-payloads k

-- the literals of so many branches at a place and of ELSE, as the classes behind a class
pub record BlockRead (rule : List ℕ) (at end count : ℕ) (to : DataType) (from : ℕ) (kinds payloads : List ℕ) : Type 0 where
  pub held : (bs : Branches) (els : Optional) (depth : ℕ) (row : Row) (table : List ℕ) → TreesAt rule at end (branch_trees bs ++ optional_trees els) depth → branch_count bs ≡ count
      → (j : ℕ) → j ≤ count → (slice_index kinds (from + suc j) ≢ 0) → meaning rule table (value_at kinds payloads (from + suc j)) ≡ result_at bs row (eval_else els row to) j

-- the results of the CASE at a place are the classes behind a class, all of a kind; its branches stand at a place
pub record NestedRead (rule : List ℕ) (start end code from place : ℕ) (kinds payloads : List ℕ) : Type 0 where
  pub inside : start < length rule
  pub room : from + byte rule (start + 4) + 3 ≤ 258
  pub type : DataType
  pub type_is : TypeGives rule start type
  pub read : BlockRead rule place end (byte rule (start + 4)) type from kinds payloads
  pub of_kind : all_of_kind kinds code from (byte rule (start + 4) + 1) ≡ true

-- the same where a place is found
pub record NestedResults (rule : List ℕ) (start end code from : ℕ) (kinds payloads : List ℕ) (place : Option ℕ) (kinds' payloads' : List ℕ) : Type 0 where
  pub grown : Grown from kinds payloads kinds' payloads'
  pub found : IfSome place (λ p. NestedRead rule start end code from p kinds' payloads')

-- ---- the classes of a list's rows

-- the class of each listed row is its index behind a class, any other is unchanged
pub record Numbered (w : List ℕ) (n : ℕ) (values : List ℕ) (from : ℕ) (classes classes' : List ℕ) : Type 0 where
  pub here : (q : ℕ) → Listed w 0 n q → slice_index classes' q ≡ from + slice_index values q
  pub others : (q : ℕ) → (Listed w 0 n q → ⊥) → slice_index classes' q ≡ slice_index classes q

-- a class behind a class is of the kind, and its literal is the outcome of whatever node stands from a place to a place
pub record ClassRight (rule : List ℕ) (start end : ℕ) (table : List ℕ) (t : Table) (kinds payloads : List ℕ) (code from used q c : ℕ) : Type 0 where
  pub above : from < c
  pub below : c < used
  pub kind_is : slice_index_or kinds c 0 ≡ code
  pub means : (e : Expr) (depth : ℕ) → NodeAt rule start end e (depth + 1) → meaning rule table (value_at kinds payloads c) ≡ eval e (row_in table t q)

-- the wanted rows have such classes where those are found, with `used` behind the last, and the others are unchanged
pub record CaseClassed (wanted : ℕ → Type 0) (rule : List ℕ) (start end : ℕ) (table : List ℕ) (t : Table) (code from : ℕ) (classes kinds payloads : List ℕ) (used : Option ℕ) (classes' kinds' payloads' : List ℕ) : Type 0 where
  pub grown : Grown from kinds payloads kinds' payloads'
  pub few : IfSome used (λ u. u ≤ 258)
  pub onward : IfSome used (λ u. from ≤ u)
  pub others : (q : ℕ) → (wanted q → ⊥) → slice_index classes' q ≡ slice_index classes q
  pub here : IfSome used (λ u. (q : ℕ) → wanted q → ClassRight rule start end table t kinds' payloads' code from u q (slice_index classes' q))

-- the listed rows of a class
abbrev pub WantedRows : List ℕ → ℕ → List ℕ → ℕ → ℕ → Type 0
WantedRows w n classes class q = Listed w 0 n q × (slice_index classes q ≡ class)

-- the rows of a class: unchanged where it is a literal of the kind, else classed by a node
pub record ThenClassed (rule : List ℕ) (start end : ℕ) (table : List ℕ) (t : Table) (code : ℕ) (w : List ℕ) (n class from : ℕ) (classes kinds payloads : List ℕ) (used : Option ℕ) (w' classes' kinds' payloads' : List ℕ) : Type 0 where
  pub long : length w' ≡ length w
  pub low : (j : ℕ) → j < 6656 → byte w' j ≡ byte w j
  pub same : slice_index_or kinds class 0 ≡ code → (used ≡ Some from) × (classes' ≡ classes) × (kinds' ≡ kinds) × (payloads' ≡ payloads)
  pub found : (slice_index kinds class ≢ code) → CaseClassed (WantedRows w n classes class) rule start end table t code from classes kinds payloads used classes' kinds' payloads'

-- what the THENs of the root CASE ask: each listed row has the class of a result, from 1, and that of ELSE is of the kind
pub record ThensAsk (code count : ℕ) (w : List ℕ) (n : ℕ) (classes kinds payloads : List ℕ) : Type 0 where
  pub few : count ≤ 255
  pub each : (q : ℕ) → Listed w 0 n q → (0 < slice_index classes q) × (slice_index classes q ≤ count + 1)
  pub else_kind : slice_index_or kinds (count + 1) 0 ≡ code

-- the class c of a row, which had the class j of a result: of the kind, and its literal is the outcome of that result, where the literals that were there are those of whatever branches stand at a place
pub record ResultClass (rule : List ℕ) (at : ℕ) (table : List ℕ) (t : Table) (code count : ℕ) (kinds payloads kinds' payloads' : List ℕ) (q j c : ℕ) : Type 0 where
  pub below : c < 258
  pub kind_is : slice_index_or kinds' c 0 ≡ code
  pub means : (bs : Branches) (rest : List Expr) (end : ℕ) (o : Outcome) → TreesAt rule at end (branch_trees bs ++ rest) 7 → branch_count bs ≡ count
      → ((i : ℕ) → i ≤ count → slice_index kinds (suc i) ≡ code → meaning rule table (value_at kinds payloads (suc i)) ≡ result_at bs (row_in table t q) o i)
      → meaning rule table (value_at kinds' payloads' c) ≡ indexed bs (row_in table t q) o j

-- the same of each listed row, where the classes are found
pub record ThensClassed (rule : List ℕ) (at : ℕ) (table : List ℕ) (t : Table) (code count : ℕ) (w : List ℕ) (n : ℕ) (classes kinds payloads : List ℕ) (found : Bool) (w' classes' kinds' payloads' : List ℕ) : Type 0 where
  pub long : length w' ≡ length w
  pub low : (j : ℕ) → j < 6656 → byte w' j ≡ byte w j
  pub here : found ≡ true → (q : ℕ) → Listed w 0 n q → ResultClass rule at table t code count kinds payloads kinds' payloads' q (slice_index classes q) (slice_index classes' q)

-- the classes are numbers of the type, and mean the rule's outcomes, where they are found; how many payloads there are, the array's type says
pub record ClassesGive (rule table : List ℕ) (t : Table) (result : DataType) (w : List ℕ) (found : Option Results) (w' classes : List ℕ) : Type 0 where
  pub long : length w' ≡ length w
  pub low : (j : ℕ) → j < 6656 → byte w' j ≡ byte w j
  pub asks : IfSome found (λ r. length r.payloads ≡ 258 → ClassesAsk t.rows result classes r.payloads)
  pub right : IfSome found (λ r. RowsRight rule table t (class_value result classes r.payloads))
