-- Where the parts of a table stand, and what the places say: the columns that its bytes hold there.
use Rattle.std.specs.Prelude.{◌≡◌, Bool, true, false, cond, List, [], ◌∷◌, ◌++◌, map, ℕ, ◌+◌, ◌-◌, ◌≤◌, ◌<◌, length, get_or, take, replicate, slice_get, Option as RustOption, Result as RustResult, Ok, Err, IfOk}
use Rattle.std.proofs.Math.Option.{Option, some, none}
use Rattle.std.proofs.Math.ListN.{get_elem?}
use Rattle.layout.specs.declared.refusal.Refusal.{Refusal}
use Rattle.layout.specs.Refusals.{number_of}
use Rattle.layout.specs.Result.{Result, refused, ok, answered}
use Rattle.layout.specs.Bytes.{part}
use Rattle.table.specs.declared.places.ColumnPlace.{ColumnPlace}
use Rattle.table.specs.declared.places.Table.{Table as TablePlaces}
use Rattle.scalar.specs.declared.types.DataType.{DataType}
use Rattle.scalar.specs.declared.types.DataType.TheVariants.{Boolean, Int32, Int64, Float64, Utf8}
use Rattle.table.specs.Column.{TableColumn, null_count}
use Rattle.table.specs.Reading.{Table, read_table, read_alone}

-- the two bytes of the null count stand before the header of tag 3 (02, Change 3)
abbrev pub count_in : List ℕ → Bool → ℕ → Option (List ℕ)
count_in bytes counted at = cond counted (some (part bytes (at - 5) (at - 3))) none

-- the column that bytes hold at a place
abbrev pub column_in : List ℕ → ColumnPlace → TableColumn
column_in bytes p = record {
  type = p.data_type;
  nullable = p.nullable;
  nulls = count_in bytes p.counted p.validity.start;
  validity = part bytes p.validity.start p.validity.end;
  offsets = part bytes p.offsets.start p.offsets.end;
  values = part bytes p.values.start p.values.end;
}

-- the table that bytes hold at the places
abbrev pub table_in : List ℕ → TablePlaces → Table
table_in bytes t = record { rows = t.rows; columns = map (column_in bytes) (take t.count t.columns) }

-- what the answer of a reading says: its refusal's number, or the table that bytes hold at its places
abbrev pub reading_in : List ℕ → RustResult TablePlaces Refusal → Result Table
reading_in bytes (Err e) = refused (number_of e)
reading_in bytes (Ok t) = ok (table_in bytes t)

-- a place lies in the bytes
pub record Inside (size start end : ℕ) : Type 0 where
  pub ordered : start ≤ end
  pub in_bytes : end ≤ size

-- a column's places lie in the bytes
pub record ColumnInside (size : ℕ) (p : ColumnPlace) : Type 0 where
  pub validity : Inside size p.validity.start p.validity.end
  pub offsets : Inside size p.offsets.start p.offsets.end
  pub values : Inside size p.values.start p.values.end

-- what is behind the last column of a struct of places
abbrev pub no_place : ColumnPlace
no_place = record {
  data_type = Boolean;
  nullable = false;
  counted = false;
  null_count = 0;
  validity = record { start = 0; end = 0 };
  offsets = record { start = 0; end = 0 };
  values = record { start = 0; end = 0 };
}

-- ---- where the parts stand (01, Bytes of a table)

-- where offsets start behind a validity: behind the header of tag 5, which only text has
abbrev pub offsets_start : DataType → ℕ → ℕ
offsets_start Boolean at = at
offsets_start Int32 at = at
offsets_start Int64 at = at
offsets_start Float64 at = at
offsets_start Utf8 at = at + 3

-- where the offsets of a column end whose validity starts at a place
abbrev pub offsets_end : ℕ → TableColumn → ℕ
offsets_end at c = offsets_start c.type (at + length c.validity) + length c.offsets

-- where its values end: they stand behind the offsets and the header of tag 4
abbrev pub values_end : ℕ → TableColumn → ℕ
values_end at c = offsets_end at c + 3 + length c.values

-- whether the null count is written
abbrev pub is_counted : Option (List ℕ) → Bool
is_counted none = false
is_counted (some content) = true

-- where the parts of a column of so many rows stand whose validity starts at a place, and how many of the rows are null
abbrev pub place_behind : ℕ → ℕ → TableColumn → ColumnPlace
place_behind rows at c = record {
  data_type = c.type;
  nullable = c.nullable;
  counted = is_counted c.nulls;
  null_count = null_count c.validity rows;
  validity = record { start = at; end = at + length c.validity };
  offsets = record { start = offsets_start c.type (at + length c.validity); end = offsets_end at c };
  values = record { start = offsets_end at c + 3; end = values_end at c };
}

-- how many bytes tag 6 takes
abbrev pub count_size : Option (List ℕ) → ℕ
count_size none = 0
count_size (some content) = 3 + length content

-- where the validity of a column starts whose tag 2 ends at a place: behind tag 6 and the header of tag 3
abbrev pub validity_start : ℕ → TableColumn → ℕ
validity_start at c = at + count_size c.nulls + 3

-- where the parts of a column of so many rows stand that starts at a place: tag 2 takes five bytes
abbrev pub place_from : ℕ → ℕ → TableColumn → ColumnPlace
place_from rows at c = place_behind rows (validity_start (at + 5) c) c

-- where a column ends that starts at a place
abbrev pub column_end : ℕ → TableColumn → ℕ
column_end at c = values_end (validity_start (at + 5) c) c

-- columns of so many rows stand one behind the other
unfoldable pub places_from : ℕ → ℕ → List TableColumn → List ColumnPlace
places_from rows at [] = []
places_from rows at (c ∷ cs) = place_from rows at c ∷ places_from rows (column_end at c) cs

-- places in 16 slots, those behind the last column empty
abbrev pub places_in16 : List ColumnPlace → List ColumnPlace
places_in16 places = places ++ replicate (16 - length places) no_place

-- where the parts of a table stand whose columns start at a place
abbrev pub table_from : ℕ → Table → TablePlaces
table_from at t = record { rows = t.rows; count = length t.columns; columns = places_in16 (places_from t.rows at t.columns) }

-- the answer of a reading whose columns start at a place: where the parts stand, or the refusal and nothing else (01, Where a call stops)
abbrev pub table_answer_from : ℕ → Result Table → RustResult TablePlaces Refusal
table_answer_from at = answered (table_from at)

-- the answer of the reading of a table: its columns start behind tag 1, which takes five bytes
unfoldable pub table_answer : Result Table → RustResult TablePlaces Refusal
table_answer = table_answer_from 5

-- the answer of the reading of one column of so many rows that is the whole of the bytes: where its parts stand, or the refusal and nothing else
unfoldable pub alone_answer : ℕ → Result TableColumn → RustResult ColumnPlace Refusal
alone_answer rows = answered (place_from rows 0)

-- the count that a column's place holds is the number of nulls among so many rows (02, Change 3: every holder keeps it equal to the bits)
abbrev pub CountKept : List ℕ → ℕ → ColumnPlace → Type 0
CountKept bytes rows p = p.null_count ≡ null_count (column_in bytes p).validity rows

-- the places of a table lie in its bytes and hold the counts of their nulls
pub record TableInside (bytes : List ℕ) (t : TablePlaces) : Type 0 where
  pub few : t.count ≤ 16
  pub inside : (i : ℕ) → i < t.count → ColumnInside (length bytes) (get_or t.columns i no_place)
  pub counts : (i : ℕ) → i < t.count → CountKept bytes t.rows (get_or t.columns i no_place)

-- what the answer of a table's reading means: it says what the definition reads, and where it is accepted, its places lie in the bytes and
-- hold the counts of their nulls
pub record TableRead (bytes : List ℕ) (r : RustResult TablePlaces Refusal) : Type 0 where
  pub says : reading_in bytes r ≡ read_table bytes
  pub places : IfOk r (TableInside bytes)

-- what the answer of one column's reading says: its refusal's number, or the column that bytes hold at its place
abbrev pub place_in : List ℕ → RustResult ColumnPlace Refusal → Result TableColumn
place_in bytes (Err e) = refused (number_of e)
place_in bytes (Ok p) = ok (column_in bytes p)

-- what the answer of one column's reading means: it says what the definition reads, and where there is one, its places lie in the bytes and
-- hold the count of its nulls
pub record AloneRead (bytes : List ℕ) (rows : ℕ) (r : RustResult ColumnPlace Refusal) : Type 0 where
  pub says : place_in bytes r ≡ read_alone rows bytes
  pub inside : IfOk r (ColumnInside (length bytes))
  pub counts : IfOk r (CountKept bytes rows)

-- a part of a column, of no column empty
abbrev pub part_of_column : (TableColumn → List ℕ) → Option TableColumn → List ℕ
part_of_column choose none = []
part_of_column choose (some c) = choose c

-- the validity, offsets or values of a column, as the part of the table's bytes that holds them (01, Bytes of a table)
abbrev pub part_in : (TableColumn → List ℕ) → List ℕ → TablePlaces → ℕ → List ℕ
part_in choose bytes t column = part_of_column choose (get_elem? (table_in bytes t).columns column)

-- the place of a column of a table, or none where the table has no such column
abbrev pub column_of : TablePlaces → ℕ → RustOption ColumnPlace
column_of t column = slice_get (take t.count t.columns) column

-- the null count that the places hold of a column; of no column 0
abbrev pub null_count_in : TablePlaces → ℕ → ℕ
null_count_in t column = (get_or (take t.count t.columns) column no_place).null_count
