-- Reading a table. The order of the tests is document 01's order of numbers (01, Where a call stops: 9 to 12; 02, Change 3: 25).
use Rattle.std.specs.Prelude.{Bool, true, cond, ◌&&◌, ◌||◌, List, [], ◌∷◌, ℕ, zero, suc, ◌*◌, eqb, leb, ltb, length, drop}
use Rattle.std.proofs.Math.Option.{Option, some, none}
use Rattle.layout.specs.Result.{Result, refused, ok, ◌>>=◌, require}
use Rattle.layout.specs.Bytes.{byte, number, bitmap_length}
use Rattle.layout.specs.Field.{Field, header}
use Rattle.scalar.specs.declared.types.DataType.{DataType}
use Rattle.scalar.specs.declared.types.DataType.TheVariants.{Boolean, Int32, Int64, Float64, Utf8}
use Rattle.scalar.specs.Types.{type_numbered, mark_numbered}
use Rattle.table.specs.Column.{TableColumn, valid_in, null_count, offset_at}

-- a part of a column, and the bytes behind it
pub record Part (A : Type 0) : Type 0 where
  pub part : A
  pub rest : List ℕ

-- the field of a tag; cut, absent, or tag out of order: 9
unfoldable pub tagged : ℕ → List ℕ → Result Field
tagged tag bytes = do
  f ← header 9 bytes
  _ ← require (eqb f.tag tag) 9
  ok f

-- tag 1 or 2 of wrong length: 9; both take two bytes
unfoldable pub tagged_pair : ℕ → List ℕ → Result Field
tagged_pair tag bytes = do
  f ← tagged tag bytes
  _ ← require (eqb (length f.content) 2) 9
  ok f

-- tag 6 directly behind tag 2, or not at all; one that runs past the end: 9 (02, Change 3)
unfoldable pub read_count : List ℕ → Result (Part (Option (List ℕ)))
read_count bytes =
    cond (eqb (byte bytes 0) 6)
    (tagged 6 bytes >>= λ f. ok (record { part = some f.content; rest = f.rest }))
    (ok (record { part = none; rest = bytes }))

-- tag 3: length 0 or rows / 8 rounded up, else 11
unfoldable pub read_validity : ℕ → List ℕ → Result (Part (List ℕ))
read_validity rows bytes = do
  f ← tagged 3 bytes
  _ ← require (eqb (length f.content) 0 || eqb (length f.content) (bitmap_length rows)) 11
  ok (record { part = f.content; rest = f.rest })

-- so many offsets never fall
unfoldable pub never_falls : ℕ → List ℕ → Bool
never_falls zero offsets = true
never_falls (suc n) offsets = leb (offset_at offsets 0) (offset_at offsets 1) && never_falls n (drop 4 offsets)

-- tag 5: rows + 1 offsets of four bytes, from 0, never falling, else 11
unfoldable pub read_text_offsets : ℕ → List ℕ → Result (Part (List ℕ))
read_text_offsets rows bytes = do
  f ← tagged 5 bytes
  _ ← require (eqb (length f.content) (4 * suc rows)) 11
  _ ← require (eqb (offset_at f.content 0) 0) 11
  _ ← require (never_falls rows f.content) 11
  ok (record { part = f.content; rest = f.rest })

-- tag 5 is for text only
abbrev pub read_offsets : DataType → ℕ → List ℕ → Result (Part (List ℕ))
read_offsets Boolean rows bytes = ok (record { part = []; rest = bytes })
read_offsets Int32 rows bytes = ok (record { part = []; rest = bytes })
read_offsets Int64 rows bytes = ok (record { part = []; rest = bytes })
read_offsets Float64 rows bytes = ok (record { part = []; rest = bytes })
read_offsets Utf8 rows bytes = read_text_offsets rows bytes

-- how long tag 4 is; the last offset is the text's length
abbrev pub values_length : DataType → ℕ → List ℕ → ℕ
values_length Boolean rows offsets = bitmap_length rows
values_length Int32 rows offsets = 4 * rows
values_length Int64 rows offsets = 8 * rows
values_length Float64 rows offsets = 8 * rows
values_length Utf8 rows offsets = offset_at offsets rows

-- tag 4: of another length 11
unfoldable pub read_values : DataType → ℕ → List ℕ → List ℕ → Result (Part (List ℕ))
read_values type rows offsets bytes = do
  f ← tagged 4 bytes
  _ ← require (eqb (length f.content) (values_length type rows offsets)) 11
  ok (record { part = f.content; rest = f.rest })

-- the parts of a column behind its tag 2: type and nullable (11), tag 6, tag 3, tag 5, tag 4
unfoldable pub read_body : ℕ → Field → Result (Part TableColumn)
read_body rows f = do
  t ← type_numbered 11 (byte f.content 0)
  n ← mark_numbered 11 (byte f.content 1)
  nulls ← read_count f.rest
  validity ← read_validity rows nulls.rest
  offsets ← read_offsets t rows validity.rest
  values ← read_values t rows offsets.part offsets.rest
  let c : TableColumn = record { type = t; nullable = n; nulls = nulls.part; validity = validity.part; offsets = offsets.part; values = values.part }
  ok (record { part = c; rest = values.rest })

-- a column, whatever its nulls
unfoldable pub read_parts : ℕ → List ℕ → Result (Part TableColumn)
read_parts rows bytes = do
  f ← tagged_pair 2 bytes
  read_body rows f

-- none of the first rows is null
unfoldable pub no_null : List ℕ → ℕ → Bool
no_null validity zero = true
no_null validity (suc n) = valid_in validity n && no_null validity n

-- tag 6 holds two bytes, which are the number (02, Change 3)
abbrev pub count_says : Option (List ℕ) → ℕ → Bool
count_says none n = true
count_says (some content) n = eqb (length content) 2 && eqb (number content) n

-- a column's null count, where it is written, is the number of nulls among its rows
abbrev pub count_right : TableColumn → ℕ → Bool
count_right c rows = count_says c.nulls (null_count c.validity rows)

-- end of a column: null in a column that isn't nullable, 12; then a count of another length or value, 25 (02, Change 3)
unfoldable pub read_column : ℕ → List ℕ → Result (Part TableColumn)
read_column rows bytes = do
  c ← read_parts rows bytes
  _ ← require (c.part.nullable || no_null c.part.validity rows) 12
  _ ← require (count_right c.part rows) 25
  ok c

-- columns to the end of the bytes, at most so many: at one more, 9 and then 10
unfoldable pub read_columns : ℕ → ℕ → List ℕ → Result (List TableColumn)
read_columns rows zero [] = ok []
read_columns rows zero (b ∷ bytes) = tagged_pair 2 (b ∷ bytes) >>= λ _. refused 10
read_columns rows (suc left) [] = ok []
read_columns rows (suc left) (b ∷ bytes) = do
  c ← read_column rows (b ∷ bytes)
  cs ← read_columns rows left c.rest
  ok (c.part ∷ cs)

-- a table: its row count and its columns
pub record Table : Type 0 where
  pub rows : ℕ
  pub columns : List TableColumn

-- the most bytes of a table; empty or above it: 9
abbrev pub bytes_most : ℕ
bytes_most = 65536

-- the most rows; above it: 10
abbrev pub rows_most : ℕ
rows_most = 512

-- the most columns; at one more: 10
abbrev pub columns_most : ℕ
columns_most = 16

-- tag 1, the row count, then the columns
unfoldable pub read_table : List ℕ → Result Table
read_table bytes = do
  _ ← require (ltb 0 (length bytes) && leb (length bytes) bytes_most) 9
  f ← tagged_pair 1 bytes
  _ ← require (leb (number f.content) rows_most) 10
  cs ← read_columns (number f.content) columns_most f.rest
  ok (record { rows = number f.content; columns = cs })

-- one column that is the whole of the bytes, as the answer is (01, Bytes of a table): above 512 rows 10, at the column's end 25, bytes behind it 9
unfoldable pub read_alone : ℕ → List ℕ → Result TableColumn
read_alone rows bytes = do
  _ ← require (leb rows rows_most) 10
  c ← read_parts rows bytes
  _ ← require (count_right c.part rows) 25
  _ ← require (eqb (length c.rest) 0) 9
  ok c.part
