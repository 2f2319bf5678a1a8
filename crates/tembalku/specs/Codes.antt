-- What the library's functions say in one number.
use Rattle.std.specs.Prelude.{◌≡◌, cond, List, ◌++◌, ℕ, ◌+◌, leb, length, drop, Result as RustResult, Ok, Err, Option as RustOption, Some, None}
use Rattle.std.proofs.Math.Option.{Option, some, none}
use Rattle.layout.specs.Result.{Result, refused, ok}
use Rattle.scalar.specs.Types.{type_number, mark_number}
use Rattle.rule.specs.Tree.{Expr}
use Rattle.rule.specs.Typing.{type_of}
use Rattle.rule.specs.Reading.{read_rule}
use Rattle.rule.specs.Strategy.{strategy_number, strategy}
use Rattle.rule.specs.Nullable.{nullable}
use Rattle.rule.specs.Projection.{projection}
use Rattle.layout.specs.declared.refusal.Refusal.{Refusal}
use Rattle.layout.specs.Refusals.{number_of}
use Rattle.table.specs.Column.{TableColumn, null_count}
use Rattle.table.specs.Reading.{Table}
use Rattle.writer.specs.Written.{output_after}
use Rattle.case.specs.Run.{work_after}
use Rattle.case.specs.Promise.{call_run}

-- a rule: its refusal number, or 256 and the number of the result's type
abbrev pub rule_code : Result Expr → ℕ
rule_code (refused n) = n
rule_code (ok e) = 256 + type_number (type_of e)

-- a table: its refusal number, or 65,536 and the number of its rows
abbrev pub table_code : Result Table → ℕ
table_code (refused n) = n
table_code (ok t) = 65536 + t.rows

-- a column's null count: the table's refusal number, 256 where it has no such column, or 65,536 and the count (02, Change 3)
abbrev pub null_count_code : RustResult (RustOption ℕ) Refusal → ℕ
null_count_code (Err e) = number_of e
null_count_code (Ok None) = 256
null_count_code (Ok (Some n)) = 65536 + n

-- an answer's null count: the refusal number of a column that is no answer of so many rows, or 65,536 and the count (02, Change 3)
abbrev pub answer_count_code : ℕ → Result TableColumn → ℕ
answer_count_code rows (refused n) = n
answer_count_code rows (ok c) = 65536 + null_count c.validity rows

-- a text of so many bytes: the place of its first ill-formed sequence, or, where it has none, its length (02, Change 8)
abbrev pub text_code : ℕ → Option ℕ → ℕ
text_code size none = size
text_code size (some place) = place

-- a rule's strategy: its refusal number, or 256 and the strategy's number
abbrev pub strategy_code : Result Expr → ℕ
strategy_code (refused n) = n
strategy_code (ok e) = 256 + strategy_number (strategy e)

-- a rule's nullability: its refusal number, or 256 and 1 or 0
abbrev pub nullable_code : Result Expr → ℕ
nullable_code (refused n) = n
nullable_code (ok e) = 256 + mark_number (nullable e)

-- a rule's projection: its refusal number, or 256 and how many columns it has
abbrev pub projection_code : Result Expr → ℕ
projection_code (refused n) = n
projection_code (ok e) = 256 + length (projection e)

-- a list at the front of a buffer where it fits, and the buffer as it was where it doesn't
abbrev pub at_front : List ℕ → List ℕ → List ℕ
at_front l buffer = cond (leb (length l) (length buffer)) (l ++ drop (length l) buffer) buffer

-- the columns at the front of the buffer, which a refusal leaves untouched
abbrev pub columns_after : Result Expr → List ℕ → List ℕ
columns_after (refused n) columns = columns
columns_after (ok e) columns = at_front (projection e) columns

-- the number and the final state of the buffer
pub record Projected (rule columns : List ℕ) (r : ℕ) (columns' : List ℕ) : Type 0 where
  pub says : r ≡ projection_code (read_rule rule)
  pub columns_are : columns' ≡ columns_after (read_rule rule) columns

-- an evaluation: its refusal number, or 65,536 and the answer's length
abbrev pub run_code : Result (List ℕ) → ℕ
run_code (refused n) = n
run_code (ok bytes) = 65536 + length bytes

-- the number and the final state of both buffers
pub record Called (rule table work output : List ℕ) (r : ℕ) (work' output' : List ℕ) : Type 0 where
  pub says : r ≡ run_code (call_run rule table work output)
  pub work_is : work' ≡ work_after (call_run rule table work output) work
  pub output_is : output' ≡ output_after (call_run rule table work output) output
