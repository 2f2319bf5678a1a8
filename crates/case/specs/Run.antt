-- A run is one whole evaluation (01, Where a call stops).
use Rattle.std.specs.Prelude.{ℕ, cond, List, map, nat_le}
use Rattle.layout.specs.Result.{Result, refused, ok, ◌>>=◌, require}
use Rattle.layout.specs.Refusals.{late_refusals, among}
use Rattle.scalar.specs.Entry.{Entry, Outcome}
use Rattle.rule.specs.Tree.{Expr}
use Rattle.rule.specs.Typing.{type_of}
use Rattle.rule.specs.Row.{eval}
use Rattle.rule.specs.Reading.{read_rule}
use Rattle.rule.specs.Nullable.{nullable}
use Rattle.table.specs.Reading.{Table, read_table}
use Rattle.table.specs.TableBytes.{column_bytes}
use Rattle.writer.specs.Answer.{column_of}
use Rattle.writer.specs.Written.{rows_from, entries_of, written_as, zeros}
use Rattle.case.specs.Fits.{fits, row_of}

-- a rule at each row of a table
abbrev pub outcomes : Expr → Table → List Outcome
outcomes e table = map (λ i. eval e (row_of table i)) (rows_from 0 table.rows)

-- a full work buffer has at least 65,536 bytes
abbrev pub work_least : ℕ
work_least = 65536

-- the answer: its type the result's, its nullable byte the nullability answer
abbrev pub answer_bytes : Expr → List Entry → List ℕ
answer_bytes e es = column_bytes (column_of (type_of e) (nullable e) es)

-- its writing: 16, 17, or the answer's bytes
abbrev pub written : Expr → List Entry → ℕ → Result (List ℕ)
written e es output = written_as (type_of e) (nullable e) es output

-- a rule and a table already read: 13, 14, 15, 16, 17
unfoldable pub run_read : Expr → Table → ℕ → ℕ → Result (List ℕ)
run_read e table work output = do
  _ ← require (fits e table) 13
  _ ← require (nat_le work_least work) 14
  es ← entries_of (outcomes e table)
  written e es output

-- rule bytes, table bytes, length of the work buffer, length of the output
unfoldable pub run : List ℕ → List ℕ → ℕ → ℕ → Result (List ℕ)
run rule table work output = do
  e ← read_rule rule
  t ← read_table table
  run_read e t work output

-- 1 to 14 leave all memory untouched, and so do the numbers of the change requests (02, Change 1); 15 to 17 leave the work buffer zero, as
-- success does
unfoldable pub work_after : Result (List ℕ) → List ℕ → List ℕ
work_after (refused n) work = cond (among late_refusals n) (zeros work) work
work_after (ok bytes) work = zeros work
