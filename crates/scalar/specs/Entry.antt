-- What a row has in a column, and what an expression is at a row (01, One row).
use Rattle.std.specs.Prelude.{ℕ, ◌^◌, Bool, true, false, List, nat_lt}
use Rattle.scalar.specs.declared.types.DataType.{DataType}
use Rattle.scalar.specs.declared.types.DataType.TheVariants.{Boolean, Int32, Int64, Float64, Utf8}

-- an entry: null or a value; integers by their two's-complement bits, floats by their bits, text by its bytes
pub data Entry : Type 0 where
  null : Entry
  boolean : Bool → Entry
  int32 : ℕ → Entry
  int64 : ℕ → Entry
  float64 : ℕ → Entry
  utf8 : List ℕ → Entry

-- an expression at a row: an entry, or its path ends at a cast that doesn't fit
pub data Outcome : Type 0 where
  entry : Entry → Outcome
  unfit : Outcome

-- an entry that is null
abbrev pub is_null : Entry → Bool
is_null null = true
is_null (boolean b) = false
is_null (int32 n) = false
is_null (int64 n) = false
is_null (float64 n) = false
is_null (utf8 t) = false

-- a Boolean entry that is true
abbrev pub is_true_entry : Entry → Bool
is_true_entry null = false
is_true_entry (boolean b) = b
is_true_entry (int32 n) = false
is_true_entry (int64 n) = false
is_true_entry (float64 n) = false
is_true_entry (utf8 t) = false

-- an operation on entries, on outcomes: a path that has ended stays so
abbrev pub on_entry : (Entry → Outcome) → Outcome → Outcome
on_entry f (entry e) = f e
on_entry f unfit = unfit

-- an operation on two entries, on outcomes: a path that has ended stays so
abbrev pub on_entries : (Entry → Entry → Entry) → Outcome → Outcome → Outcome
on_entries f (entry a) (entry b) = entry (f a b)
on_entries f (entry a) unfit = unfit
on_entries f unfit (entry b) = unfit
on_entries f unfit unfit = unfit

-- an entry of a type: null, or a value of it within its bits
unfoldable pub of_type : DataType → Entry → Bool
of_type t null = true
of_type Boolean (boolean b) = true
of_type Int32 (boolean b) = false
of_type Int64 (boolean b) = false
of_type Float64 (boolean b) = false
of_type Utf8 (boolean b) = false
of_type Boolean (int32 n) = false
of_type Int32 (int32 n) = nat_lt n (2 ^ 32)
of_type Int64 (int32 n) = false
of_type Float64 (int32 n) = false
of_type Utf8 (int32 n) = false
of_type Boolean (int64 n) = false
of_type Int32 (int64 n) = false
of_type Int64 (int64 n) = nat_lt n (2 ^ 64)
of_type Float64 (int64 n) = false
of_type Utf8 (int64 n) = false
of_type Boolean (float64 n) = false
of_type Int32 (float64 n) = false
of_type Int64 (float64 n) = false
of_type Float64 (float64 n) = nat_lt n (2 ^ 64)
of_type Utf8 (float64 n) = false
of_type Boolean (utf8 t) = false
of_type Int32 (utf8 t) = false
of_type Int64 (utf8 t) = false
of_type Float64 (utf8 t) = false
of_type Utf8 (utf8 t) = true

-- an outcome of a type: doesn't fit, or an entry of it
abbrev pub outcome_of_type : DataType → Outcome → Bool
outcome_of_type t (entry e) = of_type t e
outcome_of_type t unfit = true
