-- Types with their numbers (01, Bytes of a rule).
use Rattle.std.specs.Prelude.{ℕ, zero, suc, Bool, true, false, cond, ◌==◌, Option, Some, None}
use Rattle.layout.specs.Result.{Result, refused, ok}
use Rattle.scalar.specs.declared.types.DataType.{DataType}
use Rattle.scalar.specs.declared.types.DataType.TheVariants.{Boolean, Int32, Int64, Float64, Utf8}

-- 1 Boolean, 2 Int32, 3 Int64, 4 Float64, 5 Utf8
abbrev pub type_number : DataType → ℕ
type_number Boolean = 1
type_number Int32 = 2
type_number Int64 = 3
type_number Float64 = 4
type_number Utf8 = 5

-- two types are the same
abbrev pub same_type : DataType → DataType → Bool
same_type a b = type_number a == type_number b

-- the types of numbers: 2, 3, 4
abbrev pub is_number : DataType → Bool
is_number Boolean = false
is_number Int32 = true
is_number Int64 = true
is_number Float64 = true
is_number Utf8 = false

-- the types of integers: 2, 3
abbrev pub is_integer : DataType → Bool
is_integer Boolean = false
is_integer Int32 = true
is_integer Int64 = true
is_integer Float64 = false
is_integer Utf8 = false

-- the type of a number, or the refusal n where it has none (01, Where a call stops: 3 and 11)
unfoldable pub type_numbered : ℕ → ℕ → Result DataType
type_numbered n zero = refused n
type_numbered n (suc zero) = ok Boolean
type_numbered n (suc (suc zero)) = ok Int32
type_numbered n (suc (suc (suc zero))) = ok Int64
type_numbered n (suc (suc (suc (suc zero)))) = ok Float64
type_numbered n (suc (suc (suc (suc (suc zero))))) = ok Utf8
type_numbered n (suc (suc (suc (suc (suc (suc k)))))) = refused n

-- what an answer says, if a number without a type is refused with n
abbrev pub type_means : ℕ → Option DataType → Result DataType
type_means n (Some t) = ok t
type_means n None = refused n

-- a reading of a number as an answer
abbrev pub type_answer : Result DataType → Option DataType
type_answer (ok t) = Some t
type_answer (refused n) = None

-- a mark is 0 or 1 (01, Bytes of a rule; Bytes of a table)
unfoldable pub mark_numbered : ℕ → ℕ → Result Bool
mark_numbered n zero = ok false
mark_numbered n (suc zero) = ok true
mark_numbered n (suc (suc k)) = refused n

-- the number of a mark
abbrev pub mark_number : Bool → ℕ
mark_number b = cond b 1 0
