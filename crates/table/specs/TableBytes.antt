-- The bytes of a table and its limits (01, Bytes of a table), and that its bytes are read as that table.
use Rattle.std.specs.Prelude.{◌≡◌, true, ◌||◌, List, [], ◌∷◌, ◌++◌, ◌⊎◌, ℕ, suc, ◌*◌, ◌≤◌, length}
use Rattle.std.proofs.Math.Option.{Option, some, none}
use Rattle.std.proofs.Math.ListN.{get_elem?}
use Rattle.layout.specs.Result.{ok}
use Rattle.layout.specs.Bytes.{Bytes, number_bytes, bitmap_length}
use Rattle.layout.specs.Field.{field_bytes}
use Rattle.scalar.specs.declared.types.DataType.{DataType}
use Rattle.scalar.specs.declared.types.DataType.TheVariants.{Boolean, Int32, Int64, Float64, Utf8}
use Rattle.scalar.specs.Types.{type_number, mark_number}
use Rattle.table.specs.Column.{TableColumn, offset_at}
use Rattle.table.specs.Reading.{never_falls, values_length, no_null, count_right, bytes_most, rows_most, columns_most, Table, read_table}

-- ---- the bytes

-- tag 5 for text only
abbrev pub offsets_field : DataType → List ℕ → List ℕ
offsets_field Boolean offsets = []
offsets_field Int32 offsets = []
offsets_field Int64 offsets = []
offsets_field Float64 offsets = []
offsets_field Utf8 offsets = field_bytes 5 offsets

-- tag 6 where the null count is written (02, Change 3)
abbrev pub count_field : Option (List ℕ) → List ℕ
count_field none = []
count_field (some content) = field_bytes 6 content

-- a column's bytes: tags 2, 6 where it is written, 3, 5 for text only, 4
unfoldable pub column_bytes : TableColumn → List ℕ
column_bytes c =
    field_bytes 2 (type_number c.type ∷ mark_number c.nullable ∷ [])
    ++ (count_field c.nulls ++ (field_bytes 3 c.validity ++ (offsets_field c.type c.offsets ++ field_bytes 4 c.values)))

-- columns, one behind the other
unfoldable pub columns_bytes : List TableColumn → List ℕ
columns_bytes [] = []
columns_bytes (c ∷ cs) = column_bytes c ++ columns_bytes cs

-- a table's bytes: tag 1, the row count in two bytes, then the columns
unfoldable pub table_bytes : Table → List ℕ
table_bytes t = field_bytes 1 (number_bytes 2 t.rows) ++ columns_bytes t.columns

-- ---- the limits

-- offsets of text: rows + 1 of four bytes, from 0, never falling
pub record TextOffsetsWithin (rows : ℕ) (offsets : List ℕ) : Type 0 where
  pub size : length offsets ≡ 4 * suc rows
  pub first : offset_at offsets 0 ≡ 0
  pub rising : never_falls rows offsets ≡ true

-- offsets are for text only
abbrev pub OffsetsWithin : DataType → ℕ → List ℕ → Type 0
OffsetsWithin Boolean rows offsets = offsets ≡ []
OffsetsWithin Int32 rows offsets = offsets ≡ []
OffsetsWithin Int64 rows offsets = offsets ≡ []
OffsetsWithin Float64 rows offsets = offsets ≡ []
OffsetsWithin Utf8 rows offsets = TextOffsetsWithin rows offsets

-- the parts of a column of so many rows: validity of length 0 or a bit for each row, offsets for text only, values as long as the type and the offsets say
pub record PartsWithin (rows : ℕ) (c : TableColumn) : Type 0 where
  pub validity : (length c.validity ≡ 0) ⊎ (length c.validity ≡ bitmap_length rows)
  pub offsets : OffsetsWithin c.type rows c.offsets
  pub values : length c.values ≡ values_length c.type rows c.offsets

-- a column of so many rows: its parts, it is nullable or has no null in them, and its null count, where it is written, is their number
pub record ColumnWithin (rows : ℕ) (c : TableColumn) : Type 0 where
  pub parts : PartsWithin rows c
  pub nulls : (c.nullable || no_null c.validity rows) ≡ true
  pub count : count_right c rows ≡ true

-- every column of so many rows is within its limits
abbrev pub EachWithin : ℕ → List TableColumn → Type 0
EachWithin rows cs = (i : ℕ) (c : TableColumn) → get_elem? cs i ≡ some c → ColumnWithin rows c

-- a table within the limits: at most 512 rows, 16 columns and 65,536 bytes, and every column within its own
pub record TableWithin (t : Table) : Type 0 where
  pub rows : t.rows ≤ rows_most
  pub columns : length t.columns ≤ columns_most
  pub bytes : length (table_bytes t) ≤ bytes_most
  pub each : EachWithin t.rows t.columns

-- ---- reading

-- the bytes of a table within the limits are read as that table
abbrev pub TableReadsBack : Type 0
TableReadsBack = (t : Table) → TableWithin t → read_table (table_bytes t) ≡ ok t

-- bytes that are accepted are those of the table that is read, and it is within the limits
abbrev pub TableIsItsBytes : Type 0
TableIsItsBytes = (bytes : List ℕ) (t : Table) → Bytes bytes → read_table bytes ≡ ok t → (bytes ≡ table_bytes t) × TableWithin t
