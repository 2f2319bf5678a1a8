-- What writing the answer promises, for every argument: where the rows are no column of the type, just that; else 15, 16, 17 or the answer at
-- the front of the output (01, Where a call stops).
use Rattle.std.specs.Prelude.{◌≡◌, Bool, true, false, cond, ◌&&◌, ◌||◌, List, map, ℕ, ◌+◌, ◌*◌, ◌<◌, ◌≤◌, eqb, ltb, leb, length, get_or, Result as RustResult, Ok, Err}
use Rattle.layout.specs.Bytes.{byte, number_at}
use Rattle.layout.specs.Result.{Result, ◌>>=◌}
use Rattle.scalar.specs.declared.types.DataType.{DataType}
use Rattle.scalar.specs.declared.value.Value.{Value}
use Rattle.scalar.specs.Types.{type_number}
use Rattle.scalar.specs.Entry.{Outcome}
use Rattle.scalar.specs.Value.{meaning, kind_of, value_of}
use Rattle.layout.specs.declared.refusal.Refusal.{Refusal}
use Rattle.writer.specs.declared.WriteError.{WriteError}
use Rattle.writer.specs.declared.WriteError.TheVariants.{NoColumn, Refused}
use Rattle.writer.specs.Written.{rows_from, entries_of, written_as, run_answer, output_after}
use Rattle.writer.specs.Slots.{slot_at}
use Rattle.writer.specs.Writing.{each_row}

-- the outcomes that the first rows have
abbrev pub row_outcomes : List ℕ → List ℕ → (ℕ → Value) → ℕ → List Outcome
row_outcomes rule table v rows = map (λ i. meaning rule table (v i)) (rows_from 0 rows)

-- 15, 16, 17, or the answer's bytes
abbrev pub rows_run : List ℕ → List ℕ → (ℕ → Value) → ℕ → DataType → Bool → ℕ → Result (List ℕ)
rows_run rule table v rows t n output = entries_of (row_outcomes rule table v rows) >>= λ es. written_as t n es output

-- what a run says, and the final state of the output
pub record RunGives (run : Result (List ℕ)) (output : List ℕ) (r : RustResult ℕ Refusal) (output' : List ℕ) : Type 0 where
  pub says : r ≡ run_answer run
  pub output_is : output' ≡ output_after run output

-- of rows that each have a value
abbrev pub WriteGives : List ℕ → List ℕ → (ℕ → Value) → ℕ → DataType → Bool → List ℕ → RustResult ℕ Refusal → List ℕ → Type 0
WriteGives rule table v rows t n output r output' = RunGives (rows_run rule table v rows t n (length output)) output r output'

-- what a run says, as the writing of rows says it
abbrev pub said : RustResult ℕ Refusal → RustResult ℕ WriteError
said (Ok n) = Ok n
said (Err e) = Err (Refused e)

-- rows that are a column say what the run says
abbrev pub write_answer : Bool → Result (List ℕ) → RustResult ℕ WriteError
write_answer true run = said (run_answer run)
write_answer false run = Err NoColumn

-- rows that are none leave the output untouched
abbrev pub write_output : Bool → Result (List ℕ) → List ℕ → List ℕ
write_output true run output = output_after run output
write_output false run output = output

-- what is said of rows that are a column or none, and the final state of the output
pub record ColumnGives (column : Bool) (run : Result (List ℕ)) (output : List ℕ) (r : RustResult ℕ WriteError) (output' : List ℕ) : Type 0 where
  pub says : r ≡ write_answer column run
  pub output_is : output' ≡ write_output column run output

-- ---- rows by their slots

-- a kind that a column of the type with a number can have: null, failed, or the type's; a text may be in the table
abbrev pub kind_fits : ℕ → ℕ → Bool
kind_fits code k = eqb k 0 || eqb k 7 || cond (eqb k 6) (eqb code 5) (eqb k code)

-- at most 512 rows, a frame with their slots, and a rule and a table whose texts can be counted
abbrev pub lengths_fit : List ℕ → List ℕ → List ℕ → ℕ → Bool
lengths_fit rule table w rows = leb rows 512 && leb 5632 (length w) && leb (length rule) 65536 && leb (length table) 65536

-- a row's slot has a kind that a column of the type with a number can have
abbrev pub slot_fits : ℕ → List ℕ → ℕ → Bool
slot_fits code w i = kind_fits code (kind_of (slot_at w i))

-- every row's has
abbrev pub slots_fit : ℕ → List ℕ → ℕ → Bool
slots_fit code w rows = each_row (slot_fits code w) rows

-- the rows' slots can be written as a column of a type
abbrev pub writable : List ℕ → List ℕ → List ℕ → ℕ → DataType → Bool
writable rule table w rows t = lengths_fit rule table w rows && slots_fit (type_number t) w rows

-- the same, fact by fact
pub record WriteAsks (rule table w : List ℕ) (rows : ℕ) (t : DataType) : Type 0 where
  pub few : rows ≤ 512
  pub room : 5632 ≤ length w
  pub rule_short : length rule ≤ 65536
  pub table_short : length table ≤ 65536
  pub each : (i : ℕ) → i < rows → slot_fits (type_number t) w i ≡ true

-- the kind of a row's slot
abbrev pub slot_kind : List ℕ → ℕ → ℕ
slot_kind w i = byte w (1024 + 9 * i)

-- its payload
abbrev pub slot_payload : List ℕ → ℕ → ℕ
slot_payload w i = number_at 8 w (1025 + 9 * i)

-- a yes just where something holds
pub record Tells (answer : Bool) (fact : Type 0) : Type 0 where
  pub holds : answer ≡ true → fact
  pub told : fact → answer ≡ true

-- every row is of a kind
abbrev pub RowsOfKind : (ℕ → ℕ) → ℕ → ℕ → Type 0
RowsOfKind kind rows k = (i : ℕ) → i < rows → kind i ≡ k

-- every row's kind is that of the answer's type, which is one of numbers
pub record PlainRows (kind : ℕ → ℕ) (rows : ℕ) (t : DataType) : Type 0 where
  pub few : rows ≤ 512
  pub number : (2 ≤ type_number t) × (type_number t ≤ 4)
  pub kind_is : RowsOfKind kind rows (type_number t)

-- ---- rows by their classes

-- the number of a row's class, as a value of a type
abbrev pub class_value : DataType → List ℕ → List ℕ → ℕ → Value
class_value t classes payloads i = value_of (type_number t) (get_or payloads (get_or classes i 0) 0)

-- at most 512 rows, a class for each, and a number for each class
abbrev pub classes_long : ℕ → List ℕ → List ℕ → Bool
classes_long rows classes payloads = leb rows 512 && eqb (length classes) 512 && eqb (length payloads) 258

-- the number of a type of numbers
abbrev pub number_type : ℕ → Bool
number_type code = leb 2 code && leb code 4

-- a row's class has a number
abbrev pub class_in : List ℕ → ℕ → Bool
class_in classes i = ltb (get_or classes i 0) 258

-- every row's has
abbrev pub classes_in : List ℕ → ℕ → Bool
classes_in classes rows = each_row (class_in classes) rows

-- the rows' classes can be written as a column of a type, which is one of numbers
abbrev pub classed : ℕ → DataType → List ℕ → List ℕ → Bool
classed rows t classes payloads = classes_long rows classes payloads && number_type (type_number t) && classes_in classes rows

-- the arrays have a class for each row, and a number for each class that a row has
pub record ClassesIn (rows : ℕ) (classes payloads : List ℕ) : Type 0 where
  pub few : rows ≤ 512
  pub classes_full : length classes ≡ 512
  pub payloads_long : length payloads ≡ 258
  pub below : (i : ℕ) → i < rows → get_or classes i 0 < 258

-- rows that can be written, fact by fact
pub record ClassesAsk (rows : ℕ) (t : DataType) (classes payloads : List ℕ) : Type 0 where
  pub number : (2 ≤ type_number t) × (type_number t ≤ 4)
  pub inside : ClassesIn rows classes payloads

-- the payload of a row's class
abbrev pub class_payload : List ℕ → List ℕ → ℕ → ℕ
class_payload classes payloads i = get_or payloads (get_or classes i 0) 0
