-- A rule and a table that were read, and what their evaluation row by row promises (01, Where a call stops).
use Rattle.std.specs.Prelude.{◌≡◌, ℕ, ◌<◌, ◌≤◌, Bool, true, List, length, Result as RustResult}
use Rattle.layout.specs.Result.{ok}
use Rattle.scalar.specs.declared.types.DataType.{DataType}
use Rattle.scalar.specs.declared.value.Value.{Value}
use Rattle.scalar.specs.Entry.{outcome_of_type}
use Rattle.scalar.specs.Value.{meaning}
use Rattle.rule.specs.declared.read.RuleReading.{RuleReading}
use Rattle.rule.specs.Tree.{Expr}
use Rattle.rule.specs.Row.{eval}
use Rattle.rule.specs.Reading.{read_rule}
use Rattle.rule.specs.Steps.{ReadingIs}
use Rattle.rule.specs.Node.{NodeAt}
use Rattle.table.specs.declared.places.Table.{Table}
use Rattle.table.specs.Reading.{read_table}
use Rattle.table.specs.Places.{table_in}
use Rattle.layout.specs.declared.refusal.Refusal.{Refusal}
use Rattle.writer.specs.Write.{WriteGives}
use Rattle.case.specs.Evaluation.{row_in}

-- what was read of a rule's and of a table's bytes
pub record ReadAsks (rule : List ℕ) (a : RuleReading) (table : List ℕ) (t : Table) : Type 0 where
  pub tree : Expr
  pub rule_reads : read_rule rule ≡ ok tree
  pub rule_is : ReadingIs a tree
  pub table_reads : read_table table ≡ ok (table_in table t)

-- each row of a table has the outcome of whatever rule the bytes are
pub record RowsRight (rule table : List ℕ) (t : Table) (v : ℕ → Value) : Type 0 where
  pub right : (e : Expr) → NodeAt rule 0 (length rule) e 8 → (i : ℕ) → i < t.rows → meaning rule table (v i) ≡ eval e (row_in table t i)

-- each of the first rows has an outcome of a type
pub record RowsOfType (rule table : List ℕ) (v : ℕ → Value) (rows : ℕ) (t : DataType) : Type 0 where
  pub typed : (i : ℕ) → i < rows → outcome_of_type t (meaning rule table (v i)) ≡ true

-- what answering all rows asks: a full work buffer, and that outcomes of whatever rule the bytes are, are of the answer's type
pub record AnswerAsks (rule table : List ℕ) (t : Table) (result : DataType) (w : List ℕ) : Type 0 where
  pub few : t.rows ≤ 512
  pub room : 65536 ≤ length w
  pub rule_short : length rule ≤ 4096
  pub table_short : length table ≤ 65536
  pub typed : (v : ℕ → Value) → RowsRight rule table t v → RowsOfType rule table v t.rows result

-- and promises: the rows have these outcomes, and were written
pub record AnswerGives (rule table : List ℕ) (t : Table) (result : DataType) (n : Bool) (w output : List ℕ) (r : RustResult ℕ Refusal) (w' output' : List ℕ) : Type 0 where
  pub long : length w' ≡ length w
  pub value : ℕ → Value
  pub right : RowsRight rule table t value
  pub wrote : WriteGives rule table value t.rows result n output r output'
