-- What must hold of the definitions, in a reader's words. `proofs/DemandsHold.antt`, `CallsHold.antt` and `EndsHold.antt` have the proofs.
-- That of the casts only Int64 to Int32, Float64 to Int32 and Float64 to Int64 can fail to fit is `CastFailsExactly` of scalar's `specs/Cast.antt`; that
-- each of them can, `CanFailExactly`.
-- Each speaks of lists of bytes, as a slice of bytes always is one.
use Rattle.std.specs.Prelude.{◌≡◌, ℕ, zero, suc, ◌+◌, ◌<◌, ◌≤◌, Bool, true, false, cond, ◌||◌, ◌⊎◌, ◌↔◌, List, [], ◌++◌, length, take, drop, Result as RustResult, Ok, Err}
use mathlib.Core.List.{Memᴰ}
use Rattle.std.proofs.Math.Option.{some}
use Rattle.layout.specs.Result.{Result, refused, ok}
use Rattle.layout.specs.Refusals.{run_refusals, builder_refusals, among, number_of}
use Rattle.layout.specs.Bytes.{Bytes, number_bytes}
use Rattle.layout.specs.Field.{field_bytes}
use Rattle.scalar.specs.Entry.{Entry, is_null, Outcome, entry, unfit, outcome_of_type}
use Rattle.scalar.specs.Pair.{agree}
use Rattle.rule.specs.Tree.{Expr}
use Rattle.rule.specs.TreeBytes.{bytes_of}
use Rattle.rule.specs.Allowed.{RuleReadsBack, RuleIsAllowed}
use Rattle.rule.specs.Typing.{type_of}
use Rattle.rule.specs.Row.{eval}
use Rattle.rule.specs.Path.{path, reads_column, columns_read, holds_misfit}
use Rattle.rule.specs.Constant.{unread}
use Rattle.rule.specs.Nullable.{nullable}
use Rattle.rule.specs.Reading.{read_rule}
use Rattle.table.specs.Column.{TableColumn, null_count, entry_at}
use Rattle.table.specs.TableBytes.{TableReadsBack, TableIsItsBytes}
use Rattle.table.specs.Reading.{read_parts, Table, read_table, read_alone}
use Rattle.std.proofs.Math.ListN.{get_elem?}
use Rattle.layout.specs.declared.refusal.Refusal.{Refusal}
use Rattle.layout.specs.declared.refusal.Refusal.TheVariants.{Cast}
use Rattle.writer.specs.Written.{zeros}
use Rattle.builder.specs.Builder.{Builder, new_builder, add_branch_result}
use Rattle.case.specs.Fits.{fits, entry_in, row_of}
use Rattle.case.specs.Run.{run, work_least}
use Rattle.case.specs.Promise.{call_run, Evaluated}

-- ---- demand 1: a call ends with a column or one of the numbers, and what it leaves

-- every refusal of a run is one of 1 to 17, or 25
abbrev pub RunRefusals : Type 0
RunRefusals = (rule table : List ℕ) (work output n : ℕ) → run rule table work output ≡ refused n → among run_refusals n ≡ true

-- every refusal of a builder is 10 or one of 18 to 21
abbrev pub BuilderRefusals : Type 0
BuilderRefusals =
    ((rows n : ℕ) → new_builder {A = ℕ} rows ≡ refused n → among builder_refusals n ≡ true)
    × ((b : Builder ℕ) (rows values : List ℕ) (n : ℕ) → add_branch_result b rows values ≡ refused n → among builder_refusals n ≡ true)

-- a call that answers leaves the run's answer at the front of the output, the output past it untouched, and the work buffer zero
pub record AnswerLeaves (run : Result (List ℕ)) (work output : List ℕ) (n : ℕ) (work' output' : List ℕ) : Type 0 where
  pub answer_is : run ≡ ok (take n output')
  pub inside : n ≤ length output
  pub past_it : drop n output' ≡ drop n output
  pub as_long : length output' ≡ length output
  pub work_zero : work' ≡ zeros work

-- a call that is refused says the run's number, one of 1 to 17 or 25, leaves the output untouched, and the work buffer zero at 15 to 17 and
-- untouched at any other
pub record RefusalLeaves (run : Result (List ℕ)) (work output : List ℕ) (n : ℕ) (work' output' : List ℕ) : Type 0 where
  pub number_is : run ≡ refused n
  pub listed : among run_refusals n ≡ true
  pub output_kept : output' ≡ output
  pub work_kept : (n ≤ 14) ⊎ (18 ≤ n) → work' ≡ work
  pub work_zero : 15 ≤ n → n ≤ 17 → work' ≡ zeros work

-- what a call leaves, by what it says
abbrev pub Leaves : Result (List ℕ) → List ℕ → List ℕ → RustResult ℕ Refusal → List ℕ → List ℕ → Type 0
Leaves run work output (Ok n) work' output' = AnswerLeaves run work output n work' output'
Leaves run work output (Err e) work' output' = RefusalLeaves run work output (number_of e) work' output'

-- every call of `evaluate`, by what it promises, whatever rule, table and buffers it is lent (demand 1)
abbrev pub CallEnds : Type 0
CallEnds = (rule table work output : List ℕ) (r : RustResult ℕ Refusal) (work' output' : List ℕ) → Evaluated rule table work output r work' output'
    → Leaves (call_run rule table work output) work output r work' output'

-- ---- demands 2 and 3: entries

-- an answer of so many rows to a rule is a whole column of the result's type, its mark is the nullability answer, and it has this entry at
-- this row
pub record Holds (e : Expr) (answer : List ℕ) (rows i : ℕ) (v : Entry) : Type 0 where
  pub column : TableColumn
  pub reads : read_parts rows answer ≡ ok (record { part = column; rest = [] })
  pub type_is : column.type ≡ type_of e
  pub mark_is : column.nullable ≡ nullable e
  pub has : entry_at column i ≡ v

-- what a table has in a column at a row
abbrev pub entry_of : Table → ℕ → ℕ → Entry
entry_of t i c = entry_in (get_elem? t.columns c) i

-- a row of a table and a row of another agree in every column of a list: both null, or the same value (01, One row)
abbrev pub Agree : List ℕ → Table → ℕ → Table → ℕ → Type 0
Agree columns t i t' i' = (c : ℕ) → Memᴰ c columns → agree (entry_of t i c) (entry_of t' i' c) ≡ true

-- a rule and a table that were read
pub record BothRead (rule table : List ℕ) (e : Expr) (t : Table) : Type 0 where
  pub rule_bytes : Bytes rule
  pub table_bytes_lem : Bytes table
  pub rule_reads : read_rule rule ≡ ok e
  pub table_reads : read_table table ≡ ok t

-- ---- reading

-- an accepted rule is the bytes of its tree: reading loses nothing
abbrev pub RuleIsItsTree : Type 0
RuleIsItsTree = (rule : List ℕ) (e : Expr) → Bytes rule → read_rule rule ≡ ok e → rule ≡ bytes_of e

-- a rule is accepted exactly when it is the bytes of a tree that document 01 allows, and is then read as that tree; likewise a table
abbrev pub ReadExactly : Type 0
ReadExactly = RuleIsItsTree × RuleReadsBack × RuleIsAllowed × TableReadsBack × TableIsItsBytes

-- at a row of a table that fits, the outcome of an accepted rule is null, an entry of the result's type, or doesn't fit
abbrev pub OutcomeOfResultType : Type 0
OutcomeOfResultType = (rule table : List ℕ) (e : Expr) (t : Table) (i : ℕ) → BothRead rule table e t → fits e t ≡ true
    → outcome_of_type (type_of e) (eval e (row_of t i)) ≡ true

-- each entry of an answer is the one-row definition's (demand 2)
abbrev pub EntryIsOneRow : Type 0
EntryIsOneRow = (rule table : List ℕ) (e : Expr) (t : Table) (i work output : ℕ) (answer : List ℕ) → BothRead rule table e t
    → run rule table work output ≡ ok answer → i < t.rows
    → (v : Entry) × (eval e (row_of t i) ≡ entry v) × Holds e answer t.rows i v

-- an entry depends only on the columns that the row's own path reads (demand 3): whichever two tables and rows, wherever the rows stand and
-- whatever the other rows hold, if both runs answer and the rows agree in every column that the first row's path reads, both answers hold the
-- same entry there, the one-row definition's
abbrev pub EntryFollowsPath : Type 0
EntryFollowsPath = (rule table table' : List ℕ) (e : Expr) (t t' : Table) (i i' : ℕ) (work output work' output' : ℕ) (answer answer' : List ℕ)
    → BothRead rule table e t → BothRead rule table' e t'
    → run rule table work output ≡ ok answer → run rule table' work' output' ≡ ok answer' → i < t.rows → i' < t'.rows
    → Agree (columns_read (path e (row_of t i))) t i t' i'
    → (v : Entry) × (eval e (row_of t i) ≡ entry v) × Holds e answer t.rows i v × Holds e answer' t'.rows i' v

-- some row's path holds a cast that doesn't fit
abbrev pub SomePathFails : Expr → Table → Type 0
SomePathFails e t = (i : ℕ) × (i < t.rows) × (holds_misfit (path e (row_of t i)) ≡ true)

-- with an accepted rule, a table that fits, a full work buffer and any output, a run is 15 exactly when some row's path holds a cast that
-- doesn't fit (demand 3)
abbrev pub FailsExactly : Type 0
FailsExactly = (rule table : List ℕ) (e : Expr) (t : Table) (work output : ℕ) → read_rule rule ≡ ok e → read_table table ≡ ok t
    → fits e t ≡ true → work_least ≤ work → (run rule table work output ≡ refused 15) ↔ SomePathFails e t

-- an answer put behind its row count
abbrev pub behind_count : ℕ → List ℕ → List ℕ
behind_count rows answer = field_bytes 1 (number_bytes 2 rows) ++ answer

-- an answer behind its row count, where it is accepted as a table, has one column, with the same entries
abbrev pub AnswerReadsBack : Type 0
AnswerReadsBack = (rule table : List ℕ) (e : Expr) (t : Table) (work output : ℕ) (answer : List ℕ) (u : Table) → BothRead rule table e t
    → run rule table work output ≡ ok answer → read_table (behind_count t.rows answer) ≡ ok u
    → (u.rows ≡ t.rows) × (length u.columns ≡ 1) × ((i : ℕ) → i < t.rows → eval e (row_of t i) ≡ row_of u i 0)

-- the same of two calls of `evaluate`, by what each promises: the answer of a call is at the front of its output (demand 3)
abbrev pub CallsAgree : Type 0
CallsAgree = (rule table table' : List ℕ) (e : Expr) (t t' : Table) (i i' : ℕ) (work output w o work' output' w' o' : List ℕ) (n n' : ℕ)
    → BothRead rule table e t → BothRead rule table' e t'
    → Evaluated rule table work output (Ok n) w o → Evaluated rule table' work' output' (Ok n') w' o' → i < t.rows → i' < t'.rows
    → Agree (columns_read (path e (row_of t i))) t i t' i'
    → (v : Entry) × (eval e (row_of t i) ≡ entry v) × Holds e (take n o) t.rows i v × Holds e (take n' o') t'.rows i' v

-- a call of `evaluate` on an accepted rule, a table that fits and a full work buffer says 15 exactly when some row's path holds a cast that
-- doesn't fit (demand 3)
abbrev pub CallFailsExactly : Type 0
CallFailsExactly = (rule table : List ℕ) (e : Expr) (t : Table) (work output w o : List ℕ) (r : RustResult ℕ Refusal) → read_rule rule ≡ ok e → read_table table ≡ ok t
    → fits e t ≡ true → work_least ≤ length work → Evaluated rule table work output r w o → (r ≡ Err Cast) ↔ SomePathFails e t

-- ---- the null count (02, Change 3)

-- an outcome that is null
abbrev pub null_outcome : Outcome → Bool
null_outcome (entry v) = is_null v
null_outcome unfit = false

-- how many of a table's first rows a rule gives null at
unfoldable pub null_rows : Expr → Table → ℕ → ℕ
null_rows e t zero = 0
null_rows e t (suc n) = cond (null_outcome (eval e (row_of t n))) 1 0 + null_rows e t n

-- an answer of so many rows is a whole column whose null count is this number: tag 6, in the five bytes behind tag 2, says it, and so many of
-- the rows are null by the validity
pub record Counts (answer : List ℕ) (rows n : ℕ) : Type 0 where
  pub column : TableColumn
  pub reads : read_alone rows answer ≡ ok column
  pub says : column.nulls ≡ some (number_bytes 2 n)
  pub stands : take 5 (drop 5 answer) ≡ field_bytes 6 (number_bytes 2 n)
  pub has : null_count column.validity rows ≡ n

-- an answer's null count is the number of its null entries: of the rows at which the one-row definition gives null
abbrev pub AnswerCounts : Type 0
AnswerCounts = (rule table : List ℕ) (e : Expr) (t : Table) (work output : ℕ) (answer : List ℕ) → BothRead rule table e t
    → run rule table work output ≡ ok answer → Counts answer t.rows (null_rows e t t.rows)

-- the same of a call of `evaluate`, by what it promises
abbrev pub CallCounts : Type 0
CallCounts = (rule table : List ℕ) (e : Expr) (t : Table) (work output w o : List ℕ) (n : ℕ) → BothRead rule table e t
    → Evaluated rule table work output (Ok n) w o → Counts (take n o) t.rows (null_rows e t t.rows)

-- ---- what can be worked out

-- an expression can't be worked out without reading a column or failing exactly when its path, where no column can be read, reads a column or
-- holds a cast that doesn't fit (01, Strategies)
abbrev pub WorkedOutExactly : Type 0
WorkedOutExactly = (e : Expr) → (eval e unread ≡ unfit) ↔ ((reads_column (path e unread) || holds_misfit (path e unread)) ≡ true)
