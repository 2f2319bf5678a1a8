-- The answer is one column (01, Bytes of a table), with its null count (02, Change 3).
use Rattle.std.specs.Prelude.{Bool, false, cond, not, ◌||◌, List, [], ◌∷◌, ◌++◌, map, ℕ, ◌+◌, length}
use Rattle.std.proofs.Math.Option.{some}
use Rattle.layout.specs.Bytes.{number_bytes, bitmap}
use Rattle.scalar.specs.declared.types.DataType.{DataType}
use Rattle.scalar.specs.declared.types.DataType.TheVariants.{Boolean, Int32, Int64, Float64, Utf8}
use Rattle.scalar.specs.Entry.{Entry, null, boolean, int32, int64, float64, utf8, is_null, is_true_entry}
use Rattle.table.specs.Column.{TableColumn}

-- some entry is null
unfoldable pub some_null : List Entry → Bool
some_null [] = false
some_null (e ∷ es) = is_null e || some_null es

-- the number of entries that are null
unfoldable pub null_entries : List Entry → ℕ
null_entries [] = 0
null_entries (e ∷ es) = cond (is_null e) 1 0 + null_entries es

-- the answer always has tag 6: the number of nulls, two bytes (02, Change 3)
abbrev pub count_of : List Entry → List ℕ
count_of es = number_bytes 2 (null_entries es)

-- tag 3 is empty if the column holds no null
abbrev pub validity_of : List Entry → List ℕ
validity_of es = cond (some_null es) (bitmap (map (λ e. not (is_null e)) es)) []

-- entries under nulls are zero on writing
abbrev pub number_in : Entry → ℕ
number_in null = 0
number_in (boolean b) = 0
number_in (int32 n) = n
number_in (int64 n) = n
number_in (float64 n) = n
number_in (utf8 t) = 0

-- or empty text
abbrev pub text_in : Entry → List ℕ
text_in null = []
text_in (boolean b) = []
text_in (int32 n) = []
text_in (int64 n) = []
text_in (float64 n) = []
text_in (utf8 t) = t

-- numbers of k bytes, one behind the other
unfoldable pub numbers_of : ℕ → List Entry → List ℕ
numbers_of k [] = []
numbers_of k (e ∷ es) = number_bytes k (number_in e) ++ numbers_of k es

-- texts, one behind the other
unfoldable pub texts_of : List Entry → List ℕ
texts_of [] = []
texts_of (e ∷ es) = text_in e ++ texts_of es

-- rows + 1 offsets of four bytes; `from` is the first
unfoldable pub offsets_from : ℕ → List Entry → List ℕ
offsets_from from [] = number_bytes 4 from
offsets_from from (e ∷ es) = number_bytes 4 from ++ offsets_from (from + length (text_in e)) es

-- the offsets of a column of text; others have none
abbrev pub offsets_of : DataType → List Entry → List ℕ
offsets_of Boolean es = []
offsets_of Int32 es = []
offsets_of Int64 es = []
offsets_of Float64 es = []
offsets_of Utf8 es = offsets_from 0 es

-- the values of a column of a type: Booleans as bits
abbrev pub values_of : DataType → List Entry → List ℕ
values_of Boolean es = bitmap (map is_true_entry es)
values_of Int32 es = numbers_of 4 es
values_of Int64 es = numbers_of 8 es
values_of Float64 es = numbers_of 8 es
values_of Utf8 es = texts_of es

-- the column of a type, a nullable byte and entries
abbrev pub column_of : DataType → Bool → List Entry → TableColumn
column_of t n es = record { type = t; nullable = n; nulls = some (count_of es); validity = validity_of es; offsets = offsets_of t es; values = values_of t es }

-- the answer's text in all
abbrev pub text_length : List Entry → ℕ
text_length es = length (texts_of es)
