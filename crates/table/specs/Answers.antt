-- The value of an entry at its place, and the public answers about an entry and a null count: what a table's bytes have in a column.
use Rattle.std.specs.Prelude.{◌≡◌, cond, List, ℕ, suc, ◌+◌, ◌-◌, ◌*◌, ◌^◌, ◌<◌, min, leb, ltb, length, take, Result as RustResult, Ok, Err, Option as RustOption, Some, None, IfOk}
use Rattle.std.proofs.Math.Option.{Option, some, none}
use Rattle.std.proofs.Math.ListN.{get_elem?}
use Rattle.layout.specs.declared.refusal.Refusal.{Refusal}
use Rattle.layout.specs.Refusals.{number_of, refusal_numbered}
use Rattle.layout.specs.Result.{Result, refused, ok}
use Rattle.layout.specs.Bytes.{number_at, bit_at, part}
use Rattle.scalar.specs.declared.types.DataType.{DataType}
use Rattle.scalar.specs.declared.types.DataType.TheVariants as types
use Rattle.scalar.specs.declared.value.Value.{Value}
use Rattle.scalar.specs.declared.value.Value.TheVariants.{Null, Boolean, Int32, Int64, TableText}
use Rattle.scalar.specs.Entry.{Outcome, entry}
use Rattle.scalar.specs.Value.{meaning, float_value, Storable}
use Rattle.table.specs.declared.entry.EntryError.{EntryError}
use Rattle.table.specs.declared.entry.EntryError.TheVariants.{NoColumn, NoRow, Refused}
use Rattle.table.specs.declared.places.ColumnPlace.{ColumnPlace}
use Rattle.table.specs.declared.places.Table.{Table as TablePlaces}
use Rattle.table.specs.Column.{TableColumn, valid_in, null_count, offset_at, entry_at}
use Rattle.table.specs.Reading.{Table, read_table}
use Rattle.table.specs.Places.{column_in, table_from}

-- ---- what a table has

-- the table is refused, it has no such column or row, or it has an entry there
pub data ColumnEntry : Type 0 where
  table_refused : ℕ → ColumnEntry
  no_column no_row : ColumnEntry
  has : Outcome → ColumnEntry

-- what a column has at a row of so many
abbrev pub entry_of_column : Option TableColumn → ℕ → ℕ → ColumnEntry
entry_of_column none rows row = no_column
entry_of_column (some c) rows row = cond (ltb row rows) (has (entry (entry_at c row))) no_row

-- what the reading of a table has in a column at a row
abbrev pub entry_of_table : Result Table → ℕ → ℕ → ColumnEntry
entry_of_table (refused n) column row = table_refused n
entry_of_table (ok t) column row = entry_of_column (get_elem? t.columns column) t.rows row

-- ---- the values by their places (01, What changes shape)

-- a text from one offset to an end behind a place; a text without bytes stands at 0
abbrev pub text_from : ℕ → ℕ → ℕ → Value
text_from start from last = cond (leb last from) (TableText 0 0) (TableText (start + from) (last - from))

-- the text between two offsets of a part, cut at the part's end
unfoldable pub text_between_value : List ℕ → ℕ → ℕ → ℕ → ℕ → Value
text_between_value bytes start end from to = text_from start from (min to (length (part bytes start end)))

-- the value of a row of a column of a type, whatever its validity
unfoldable pub value_in : DataType → List ℕ → ColumnPlace → ℕ → Value
value_in types.Boolean bytes p row = Boolean (bit_at (column_in bytes p).values row)
value_in types.Int32 bytes p row = Int32 (number_at 4 (column_in bytes p).values (4 * row))
value_in types.Int64 bytes p row = Int64 (number_at 8 (column_in bytes p).values (8 * row))
value_in types.Float64 bytes p row = float_value (number_at 8 (column_in bytes p).values (8 * row))
value_in types.Utf8 bytes p row = text_between_value bytes p.values.start p.values.end (offset_at (column_in bytes p).offsets row) (offset_at (column_in bytes p).offsets (suc row))

-- the value of a row's entry, null where the validity says so
unfoldable pub entry_value : List ℕ → ColumnPlace → ℕ → Value
entry_value bytes p row = cond (valid_in (column_in bytes p).validity row) (value_in p.data_type bytes p row) Null

-- ---- the answer

-- the answer about a row of so many at a column's place
abbrev pub entry_of_place : List ℕ → Option ColumnPlace → ℕ → ℕ → RustResult Value EntryError
entry_of_place bytes none rows row = Err NoColumn
entry_of_place bytes (some p) rows row = cond (ltb row rows) (Ok (entry_value bytes p row)) (Err NoRow)

-- the answer about a column and a row of a table at its places
unfoldable pub entry_at_places : List ℕ → TablePlaces → ℕ → ℕ → RustResult Value EntryError
entry_at_places bytes t column row = entry_of_place bytes (get_elem? (take t.count t.columns) column) t.rows row

-- the answer by the reading of a table: its refusal, or that of its places
abbrev pub entry_of_reading : List ℕ → Result Table → ℕ → ℕ → RustResult Value EntryError
entry_of_reading bytes (refused n) column row = Err (Refused (refusal_numbered n))
entry_of_reading bytes (ok t) column row = entry_at_places bytes (table_from 5 t) column row

-- the answer about a column and a row of a table's bytes
unfoldable pub entry_of_bytes : List ℕ → ℕ → ℕ → RustResult Value EntryError
entry_of_bytes bytes = entry_of_reading bytes (read_table bytes)

-- ---- the null count of a column (02, Change 3)

-- of so many rows; no column has none
abbrev pub null_count_of_column : Option TableColumn → ℕ → RustOption ℕ
null_count_of_column none rows = None
null_count_of_column (some c) rows = Some (null_count c.validity rows)

-- by the reading of a table: its refusal, or that of a column
abbrev pub null_count_of : Result Table → ℕ → RustResult (RustOption ℕ) Refusal
null_count_of (refused n) column = Err (refusal_numbered n)
null_count_of (ok t) column = Ok (null_count_of_column (get_elem? t.columns column) t.rows)

-- ---- what an answer means

-- what an answer says: its value is read with the rule's and the table's bytes
abbrev pub entry_answer : List ℕ → List ℕ → RustResult Value EntryError → ColumnEntry
entry_answer rule table (Ok v) = has (meaning rule table v)
entry_answer rule table (Err NoColumn) = no_column
entry_answer rule table (Err NoRow) = no_row
entry_answer rule table (Err (Refused e)) = table_refused (number_of e)

-- the value of an answer keeps whole in a kind and a payload
abbrev pub StorableAnswer : RustResult Value EntryError → Type 0
StorableAnswer r = IfOk r Storable

-- what an answer about an entry means: whatever the rule's bytes, it says what the table has there, and its value can be stored where the table is shorter than 2 ^ 32 bytes
pub record EntryGives (bytes : List ℕ) (t : Result Table) (column row : ℕ) (r : RustResult Value EntryError) : Type 0 where
  pub says : (rule : List ℕ) → entry_answer rule bytes r ≡ entry_of_table t column row
  pub stores : length bytes < 2 ^ 32 → StorableAnswer r
