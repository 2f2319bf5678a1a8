-- Two entries side by side, so that comparisons and agreement are a line a type.
use Rattle.std.specs.Prelude.{ℕ, Bool, true, false, List, ◌==◌}
use Rattle.std.specs.Bool.{beq}
use Rattle.scalar.specs.Entry.{Entry, null, boolean, int32, int64, float64, utf8}
use Rattle.scalar.specs.Text.{same_bytes}

-- two entries: of which both or one is null, of two types, or both of one type
pub data Pair : Type 0 where
  both_null one_null unlike : Pair
  booleans : Bool → Bool → Pair
  int32s int64s float64s : ℕ → ℕ → Pair
  texts : List ℕ → List ℕ → Pair

-- two entries side by side
unfoldable pub pair_of : Entry → Entry → Pair
pair_of null null = both_null
pair_of null (boolean y) = one_null
pair_of null (int32 y) = one_null
pair_of null (int64 y) = one_null
pair_of null (float64 y) = one_null
pair_of null (utf8 y) = one_null
pair_of (boolean x) null = one_null
pair_of (boolean x) (boolean y) = booleans x y
pair_of (boolean x) (int32 y) = unlike
pair_of (boolean x) (int64 y) = unlike
pair_of (boolean x) (float64 y) = unlike
pair_of (boolean x) (utf8 y) = unlike
pair_of (int32 x) null = one_null
pair_of (int32 x) (boolean y) = unlike
pair_of (int32 x) (int32 y) = int32s x y
pair_of (int32 x) (int64 y) = unlike
pair_of (int32 x) (float64 y) = unlike
pair_of (int32 x) (utf8 y) = unlike
pair_of (int64 x) null = one_null
pair_of (int64 x) (boolean y) = unlike
pair_of (int64 x) (int32 y) = unlike
pair_of (int64 x) (int64 y) = int64s x y
pair_of (int64 x) (float64 y) = unlike
pair_of (int64 x) (utf8 y) = unlike
pair_of (float64 x) null = one_null
pair_of (float64 x) (boolean y) = unlike
pair_of (float64 x) (int32 y) = unlike
pair_of (float64 x) (int64 y) = unlike
pair_of (float64 x) (float64 y) = float64s x y
pair_of (float64 x) (utf8 y) = unlike
pair_of (utf8 x) null = one_null
pair_of (utf8 x) (boolean y) = unlike
pair_of (utf8 x) (int32 y) = unlike
pair_of (utf8 x) (int64 y) = unlike
pair_of (utf8 x) (float64 y) = unlike
pair_of (utf8 x) (utf8 y) = texts x y

-- two entries agree when both are null or both hold the same value, floats by bits (01, One row)
abbrev pub agree_pair : Pair → Bool
agree_pair both_null = true
agree_pair one_null = false
agree_pair unlike = false
agree_pair (booleans x y) = beq x y
agree_pair (int32s x y) = x == y
agree_pair (int64s x y) = x == y
agree_pair (float64s x y) = x == y
agree_pair (texts x y) = same_bytes x y

-- two entries agree (01, One row)
abbrev pub agree : Entry → Entry → Bool
agree a b = agree_pair (pair_of a b)
