-- What the writers of the answer promise: bytes at a place of the output, one row's behind the other's.
use Rattle.std.specs.Prelude.{◌≡◌, Bool, true, false, cond, not, List, [], ◌∷◌, ◌++◌, map, ℕ, zero, suc, ◌+◌, ◌*◌, ◌<◌, eqb, ltb, length}
use Rattle.std.specs.Float.{binary64}
use Rattle.std.specs.Float.Ieee.{to_bits}
use Rattle.layout.specs.Bytes.{number_bytes, bitmap_length}
use Rattle.layout.specs.Field.{field_bytes}
use Rattle.layout.specs.Put.{Wrote}
use Rattle.scalar.specs.declared.types.DataType.{DataType}
use Rattle.scalar.specs.declared.value.Value.{Value}
use Rattle.scalar.specs.declared.value.Value.TheVariants.{Null, Boolean, Int32, Int64, Float64, Nan, RuleText, TableText, Failed}
use Rattle.scalar.specs.Types.{type_number, mark_number}
use Rattle.scalar.specs.Entry.{Entry}
use Rattle.scalar.specs.Value.{meaning, kind_of}
use Rattle.scalar.specs.Order.{text_in}
use Rattle.scalar.specs.TryCast.{or_null}
use Rattle.writer.specs.Written.{rows_from}

-- calls at the first rows give their numbers
pub record Gives (post : ℕ → ℕ → Type 0) (numbers : ℕ → ℕ) (rows : ℕ) : Type 0 where
  pub numbers_are : (i r : ℕ) → i < rows → post i r → r ≡ numbers i

-- the bytes of the first rows, one row's behind the other's
unfoldable pub row_bytes : (ℕ → List ℕ) → ℕ → List ℕ
row_bytes f zero = []
row_bytes f (suc n) = row_bytes f n ++ f n

-- how many of the first rows pass a test
unfoldable pub count_rows : (ℕ → Bool) → ℕ → ℕ
count_rows f zero = 0
count_rows f (suc n) = cond (f n) 1 0 + count_rows f n

-- some of the first rows passes a test
unfoldable pub any_row : (ℕ → Bool) → ℕ → Bool
any_row f zero = false
any_row f (suc n) = cond (f n) true (any_row f n)

-- each of the first rows passes a test
unfoldable pub each_row : (ℕ → Bool) → ℕ → Bool
each_row f zero = true
each_row f (suc n) = cond (f n) (each_row f n) false

-- some of the first rows has a value of a kind
abbrev pub some_of_kind : (ℕ → Value) → ℕ → ℕ → Bool
some_of_kind v k rows = any_row (λ i. eqb (kind_of (v i)) k) rows

-- the entry of a row; null where it failed
abbrev pub row_entry : List ℕ → List ℕ → (ℕ → Value) → ℕ → Entry
row_entry rule table v i = or_null (meaning rule table (v i))

-- the entries of the first rows
abbrev pub row_entries : List ℕ → List ℕ → (ℕ → Value) → ℕ → List Entry
row_entries rule table v rows = map (row_entry rule table v) (rows_from 0 rows)

-- a value that is true
abbrev pub true_of : Value → Bool
true_of Null = false
true_of (Boolean b) = b
true_of (Int32 n) = false
true_of (Int64 n) = false
true_of (Float64 f) = false
true_of (Nan n) = false
true_of (RuleText start size) = false
true_of (TableText start size) = false
true_of Failed = false

-- the number of a value, 0 where it is none
abbrev pub number_of : Value → ℕ
number_of Null = 0
number_of (Boolean b) = 0
number_of (Int32 n) = n
number_of (Int64 n) = n
number_of (Float64 f) = to_bits binary64 f
number_of (Nan n) = n
number_of (RuleText start size) = 0
number_of (TableText start size) = 0
number_of Failed = 0

-- how many bytes a number takes
abbrev pub width_of : Bool → ℕ
width_of true = 8
width_of false = 4

-- the bytes of the number of a row
abbrev pub row_numbers : Bool → (ℕ → Value) → ℕ → List ℕ
row_numbers wide v i = number_bytes (width_of wide) (number_of (v i))

-- the text of a row
abbrev pub row_text : List ℕ → List ℕ → (ℕ → Value) → ℕ → List ℕ
row_text rule table v i = text_in rule table (v i)

-- the bytes of the offset at which the text of a row begins
abbrev pub row_offset : List ℕ → List ℕ → (ℕ → Value) → ℕ → List ℕ
row_offset rule table v i = number_bytes 4 (length (row_bytes (row_text rule table v) i))

-- a value's bit: whether it is true, or whether it is not null
abbrev pub flag_of : Bool → Value → Bool
flag_of true v = true_of v
flag_of false v = not (eqb (kind_of v) 0)

-- a row's bit; spare bits are zero
abbrev pub flag_at : Bool → (ℕ → Value) → ℕ → ℕ → Bool
flag_at truth v rows i = cond (ltb i rows) (flag_of truth (v i)) false

-- the number of so many bits from a row on, lowest first
unfoldable pub bits_from : (ℕ → Bool) → ℕ → ℕ → ℕ
bits_from f from zero = 0
bits_from f from (suc n) = cond (f from) 1 0 + 2 * bits_from f (suc from) n

-- the byte of eight rows' bits
abbrev pub row_bits : Bool → (ℕ → Value) → ℕ → ℕ → List ℕ
row_bits truth v rows j = bits_from (flag_at truth v rows) (8 * j) 8 ∷ []

-- how many of the first rows have their bit set
abbrev pub flag_count : Bool → (ℕ → Value) → ℕ → ℕ
flag_count truth v rows = count_rows (λ i. flag_of truth (v i)) rows

-- how many of the first rows are null
abbrev pub row_nulls : (ℕ → Value) → ℕ → ℕ
row_nulls v rows = count_rows (λ i. eqb (kind_of (v i)) 0) rows

-- the rows' bitmap stands at a place, nothing else is changed, and the answer is how many of the rows' bits are set
pub record BitsWrote (truth : Bool) (v : ℕ → Value) (rows : ℕ) (out : List ℕ) (at r : ℕ) (out' : List ℕ) : Type 0 where
  pub written : Wrote out at (row_bytes (row_bits truth v rows) (bitmap_length rows)) (at + bitmap_length rows) out'
  pub counted : r ≡ flag_count truth v rows

-- the same of the field of a tag
pub record BitFieldWrote (tag : ℕ) (truth : Bool) (v : ℕ → Value) (rows : ℕ) (out : List ℕ) (at r : ℕ) (out' : List ℕ) : Type 0 where
  pub written : Wrote out at (field_bytes tag (row_bytes (row_bits truth v rows) (bitmap_length rows))) (at + 3 + bitmap_length rows) out'
  pub counted : r ≡ flag_count truth v rows

-- how many bytes the validity of so many rows takes, where some are null and where none is
abbrev pub validity_size : ℕ → Bool → ℕ
validity_size rows null = cond null (bitmap_length rows) 0

-- how many bytes tag 4 of so many rows takes, and for text tag 5 with it
abbrev pub values_size : DataType → ℕ → ℕ → ℕ
values_size DataType.Boolean rows text = 3 + bitmap_length rows
values_size DataType.Int32 rows text = 3 + 4 * rows
values_size DataType.Int64 rows text = 3 + 8 * rows
values_size DataType.Float64 rows text = 3 + 8 * rows
values_size DataType.Utf8 rows text = 10 + 4 * rows + text

-- tag 3's content, where some row is null and where none is
abbrev pub row_validity : Bool → (ℕ → Value) → ℕ → List ℕ
row_validity true v rows = row_bytes (row_bits false v rows) (bitmap_length rows)
row_validity false v rows = []

-- tag 4, and before it tag 5 for text
abbrev pub row_values : List ℕ → List ℕ → (ℕ → Value) → ℕ → DataType → List ℕ
row_values rule table v rows DataType.Boolean = field_bytes 4 (row_bytes (row_bits true v rows) (bitmap_length rows))
row_values rule table v rows DataType.Int32 = field_bytes 4 (row_bytes (row_numbers false v) rows)
row_values rule table v rows DataType.Int64 = field_bytes 4 (row_bytes (row_numbers true v) rows)
row_values rule table v rows DataType.Float64 = field_bytes 4 (row_bytes (row_numbers true v) rows)
row_values rule table v rows DataType.Utf8 =
    field_bytes 5 (row_bytes (row_offset rule table v) (suc rows)) ++ field_bytes 4 (row_bytes (row_text rule table v) rows)

-- tag 3 stands at a place, nothing else is changed, and the answer is how many of the rows are null
pub record ValidityWrote (null : Bool) (v : ℕ → Value) (rows : ℕ) (out : List ℕ) (at r : ℕ) (out' : List ℕ) : Type 0 where
  pub written : Wrote out at (field_bytes 3 (row_validity null v rows)) (at + 3 + validity_size rows null) out'
  pub counted : r ≡ row_nulls v rows

-- the column of the rows
abbrev pub row_column : List ℕ → List ℕ → (ℕ → Value) → ℕ → DataType → Bool → Bool → List ℕ
row_column rule table v rows t nullable null =
    field_bytes 2 (type_number t ∷ mark_number nullable ∷ []) ++ field_bytes 6 (number_bytes 2 (row_nulls v rows)) ++ field_bytes 3 (row_validity null v rows)
    ++ row_values rule table v rows t

-- the bytes of a row's payload
abbrev pub plain_numbers : Bool → (ℕ → ℕ) → ℕ → List ℕ
plain_numbers wide payload i = number_bytes (width_of wide) (payload i)

-- tag 2, tag 6 of no null, tag 3 without content and the head of tag 4: what stands before so many bytes of numbers none of which is null
abbrev pub plain_front : DataType → Bool → ℕ → List ℕ
plain_front t nullable size = field_bytes 2 (type_number t ∷ mark_number nullable ∷ []) ++ field_bytes 6 (number_bytes 2 0) ++ field_bytes 3 [] ++ (4 ∷ number_bytes 2 size)
