-- Casts in the slots of rows.
use Rattle.std.specs.Prelude.{◌≡◌, ℕ, Bool, true, false, cond, List}
use Rattle.scalar.specs.declared.types.DataType.{DataType}
use Rattle.scalar.specs.declared.types.DataType.TheVariants.{Int32, Int64}
use Rattle.scalar.specs.declared.value.Value.{Value}
use Rattle.scalar.specs.Value.{Gives}
use Rattle.case.specs.declared.rows.Op.{Op}
use Rattle.case.specs.declared.rows.Op.TheVariants.{Not, Negative, IsNotNull, Cast, TryCast}
use Rattle.case.specs.Frame.{slot_at, SlotPut, operation_of}

-- an operation that is no cast
abbrev pub castless : Op → Bool
castless Not = true
castless Negative = true
castless IsNotNull = true
castless (Cast to) = false
castless (TryCast to) = false

-- the try-cast to a type, or else the cast
abbrev pub cast_to : Bool → DataType → Op
cast_to tried to = cond tried (TryCast to) (Cast to)

-- Int32, or else Int64
abbrev pub integer_type : Bool → DataType
integer_type short = cond short Int32 Int64

-- w is now w': where r is true, the slot of a row has what the operation gives; else nothing is changed
pub record RowTruncated (short tried : Bool) (w : List ℕ) (row : ℕ) (r : Bool) (w' : List ℕ) : Type 0 where
  pub put : r ≡ true → (v : Value) × SlotPut w row v w' × Gives (operation_of (cast_to tried (integer_type short))) (slot_at w row) v
  pub kept : r ≡ false → w' ≡ w
