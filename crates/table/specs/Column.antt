-- A column of a table, by its parts, and its entries (01, Bytes of a table; 02, Change 3).
use Rattle.std.specs.Prelude.{Bool, true, cond, List, [], ◌∷◌, ℕ, zero, suc, ◌+◌, ◌-◌, ◌*◌, take, drop}
use Rattle.std.proofs.Math.Option.{Option}
use Rattle.layout.specs.Bytes.{number_at, bit_at}
use Rattle.scalar.specs.declared.types.DataType.{DataType}
use Rattle.scalar.specs.declared.types.DataType.TheVariants.{Boolean, Int32, Int64, Float64, Utf8}
use Rattle.scalar.specs.Entry.{Entry, null, boolean, int32, int64, float64, utf8}

-- type and nullable mark (tag 2), the null count where it is written (tag 6), validity bits (tag 3), for text offsets (tag 5), values (tag 4)
pub record TableColumn : Type 0 where
  pub type : DataType
  pub nullable : Bool
  pub nulls : Option (List ℕ)
  pub validity : List ℕ
  pub offsets : List ℕ
  pub values : List ℕ

-- validity bits, lowest bit first; length 0 means no null
abbrev pub valid_in : List ℕ → ℕ → Bool
valid_in [] i = true
valid_in (b ∷ bits) i = bit_at (b ∷ bits) i

-- the number of nulls among the first rows (02, Change 3); spare bits don't count, and no validity means 0
unfoldable pub null_count : List ℕ → ℕ → ℕ
null_count validity zero = 0
null_count validity (suc n) = cond (valid_in validity n) 0 1 + null_count validity n

-- offsets of four bytes
abbrev pub offset_at : List ℕ → ℕ → ℕ
offset_at offsets i = number_at 4 offsets (4 * i)

-- the text between two offsets
abbrev pub text_between : ℕ → ℕ → List ℕ → List ℕ
text_between from to values = take (to - from) (drop from values)

-- a value; Booleans as bits
unfoldable pub value_at : DataType → List ℕ → List ℕ → ℕ → Entry
value_at Boolean offsets values i = boolean (bit_at values i)
value_at Int32 offsets values i = int32 (number_at 4 values (4 * i))
value_at Int64 offsets values i = int64 (number_at 8 values (8 * i))
value_at Float64 offsets values i = float64 (number_at 8 values (8 * i))
value_at Utf8 offsets values i = utf8 (text_between (offset_at offsets i) (offset_at offsets (suc i)) values)

-- the entry at a row; entries under nulls are ignored
unfoldable pub entry_at : TableColumn → ℕ → Entry
entry_at c i = cond (valid_in c.validity i) (value_at c.type c.offsets c.values i) null
