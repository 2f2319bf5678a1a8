-- What the answers of the reading's steps say, given the table's bytes.
use Rattle.std.specs.Prelude.{◌≡◌, Bool, true, cond, ◌&&◌, ◌||◌, List, ℕ, ◌+◌, ◌-◌, ◌^◌, ◌<◌, length, drop, eqb, leb, Result as RustResult, Ok, Err, IfOk}
use Rattle.std.proofs.Math.Option.{Option, some, none}
use Rattle.layout.specs.declared.refusal.Refusal.{Refusal}
use Rattle.layout.specs.declared.refusal.Refusal.TheVariants.{TableNull, NullCount}
use Rattle.layout.specs.Refusals.{number_of}
use Rattle.layout.specs.Result.{Result, refused, ok, ◌>>=◌, require, answered}
use Rattle.layout.specs.Bytes.{part}
use Rattle.layout.specs.Field.{Field}
use Rattle.table.specs.declared.column.ColumnRead.{ColumnRead}
use Rattle.table.specs.declared.places.ColumnPlace.{ColumnPlace}
use Rattle.table.specs.declared.places.Part.{Part as PartPlace}
use Rattle.table.specs.Column.{TableColumn}
use Rattle.scalar.specs.declared.value.Value.{Value}
use Rattle.scalar.specs.Entry.{Entry, entry}
use Rattle.scalar.specs.Value.{meaning, Storable}
use Rattle.table.specs.Reading.{Part, tagged, tagged_pair, count_says, read_columns, columns_most, Table}
use Rattle.table.specs.Places.{Inside, count_size, place_behind, values_end, validity_start}

-- a field of a tag by its place
abbrev pub field_means : List ℕ → ℕ → RustResult PartPlace Refusal → Result Field
field_means bytes tag (Ok p) = ok (record { tag = tag; content = part bytes p.start p.end; rest = drop p.end bytes })
field_means bytes tag (Err e) = refused (number_of e)

-- a part by its place
abbrev pub part_means : List ℕ → RustResult PartPlace Refusal → Result (Part (List ℕ))
part_means bytes (Ok p) = ok (record { part = part bytes p.start p.end; rest = drop p.end bytes })
part_means bytes (Err e) = refused (number_of e)

-- the place lies in the bytes
abbrev pub PartInside : ℕ → RustResult PartPlace Refusal → Type 0
PartInside size r = IfOk r (λ p. Inside size p.start p.end)

-- what the reading of a field promises: its answer says what the definition reads, and its place lies in the bytes
pub record FieldGives (bytes : List ℕ) (tag : ℕ) (definition : Result Field) (r : RustResult PartPlace Refusal) : Type 0 where
  pub says : field_means bytes tag r ≡ definition
  pub inside : PartInside (length bytes) r

-- what the reading of a part promises: its answer says what the definition reads, and its place lies in the bytes
pub record PartGives (bytes : List ℕ) (definition : Result (Part (List ℕ))) (r : RustResult PartPlace Refusal) : Type 0 where
  pub says : part_means bytes r ≡ definition
  pub inside : PartInside (length bytes) r

-- a null count by its place: one that isn't written is the empty part where it would stand
abbrev pub count_at : List ℕ → ℕ → PartPlace → Option (List ℕ)
count_at bytes at p = cond (eqb p.start at) none (some (part bytes p.start p.end))

-- the answer of its reading
abbrev pub count_means : List ℕ → ℕ → RustResult PartPlace Refusal → Result (Part (Option (List ℕ)))
count_means bytes at (Ok p) = ok (record { part = count_at bytes at p; rest = drop p.end bytes })
count_means bytes at (Err e) = refused (number_of e)

-- where it ends
abbrev pub CountEnds : List ℕ → ℕ → RustResult PartPlace Refusal → Type 0
CountEnds bytes at r = IfOk r (λ p. p.end ≡ at + count_size (count_at bytes at p))

-- what the reading of a null count promises: its answer says what the definition reads, and ends where that ends
pub record CountGives (bytes : List ℕ) (at : ℕ) (definition : Result (Part (Option (List ℕ)))) (r : RustResult PartPlace Refusal) : Type 0 where
  pub says : count_means bytes at r ≡ definition
  pub ends : CountEnds bytes at r

-- a column of so many rows whose tag 2 ends at a place, by its places and where the bytes behind it start
abbrev pub column_from : ℕ → ℕ → Part TableColumn → ColumnRead
column_from rows at c = record { place = place_behind rows (validity_start at c.part) c.part; next = values_end (validity_start at c.part) c.part }

-- the answer of its reading
abbrev pub head_answer : ℕ → ℕ → Result (Part TableColumn) → RustResult ColumnRead Refusal
head_answer rows at = answered (column_from rows at)

-- tag 4 of a length, else 11
unfoldable pub values_of_length : ℕ → List ℕ → Result (Part (List ℕ))
values_of_length size bytes = do
  f ← tagged 4 bytes
  _ ← require (eqb (length f.content) size) 11
  ok (record { part = f.content; rest = f.rest })

-- a column is nullable or has no null, by the count that its place holds
abbrev pub place_nulls_fit : ColumnPlace → Bool
place_nulls_fit p = p.nullable || eqb p.null_count 0

-- the null count of a column that starts at a place, between its header and that of tag 3, beside the count that its place holds
abbrev pub place_count_right : List ℕ → ℕ → ColumnPlace → Bool
place_count_right bytes at p =
    cond p.counted (leb 3 p.validity.start && count_says (some (part bytes (at + 8) (p.validity.start - 3))) p.null_count) true

-- at a column's end 12 comes before 25
abbrev pub end_answer : Bool → Bool → RustResult (Unit {0}) Refusal
end_answer fits right = cond fits (cond right (Ok tt) (Err NullCount)) (Err TableNull)

-- ---- the columns

-- bytes behind the last column that a table may have
unfoldable pub one_more : List ℕ → Result Table
one_more bytes = tagged_pair 2 bytes >>= λ _. refused 10

-- the columns of a table of so many rows
unfoldable pub columns_step : ℕ → List ℕ → Result Table
columns_step rows bytes = do
  cs ← read_columns rows columns_most bytes
  ok (record { rows = rows; columns = cs })

-- ---- an entry

-- a value beside an entry: what it means with the table's bytes, whatever the rule's, and that it can be stored where they are fewer than 2 ^ 32
pub record ValueGives (bytes : List ℕ) (e : Entry) (v : Value) : Type 0 where
  pub says : (rule : List ℕ) → meaning rule bytes v ≡ entry e
  pub stores : length bytes < 2 ^ 32 → Storable v
