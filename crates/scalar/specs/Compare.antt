-- Equal and less give null if either side is null; false is less than true, text goes by bytes, floats by IEEE 754 totalOrder (01, One row).
use Rattle.std.specs.Prelude.{not, ◌&&◌, ◌==◌}
use Rattle.std.specs.Bool.{beq}
use Rattle.scalar.specs.Integer.{signed_less}
use Rattle.scalar.specs.Float.{total_less}
use Rattle.scalar.specs.Text.{same_bytes, text_less}
use Rattle.scalar.specs.Entry.{Entry, null, boolean}
use Rattle.scalar.specs.Pair.{Pair, both_null, one_null, unlike, booleans, int32s, int64s, float64s, texts, pair_of}

-- comparisons take two of one type (01, Bytes of a rule: Types); they are null at anything else
abbrev pub equal_pair : Pair → Entry
equal_pair both_null = null
equal_pair one_null = null
equal_pair unlike = null
equal_pair (booleans x y) = boolean (beq x y)
equal_pair (int32s x y) = boolean (x == y)
equal_pair (int64s x y) = boolean (x == y)
equal_pair (float64s x y) = boolean (x == y)
equal_pair (texts x y) = boolean (same_bytes x y)

-- equal: null if either side is null (01, One row)
abbrev pub equal_entry : Entry → Entry → Entry
equal_entry a b = equal_pair (pair_of a b)

-- less of two of one type; it is null at anything else
abbrev pub less_pair : Pair → Entry
less_pair both_null = null
less_pair one_null = null
less_pair unlike = null
less_pair (booleans x y) = boolean (not x && y)
less_pair (int32s x y) = boolean (signed_less 31 x y)
less_pair (int64s x y) = boolean (signed_less 63 x y)
less_pair (float64s x y) = boolean (total_less 63 x y)
less_pair (texts x y) = boolean (text_less x y)

-- less: null if either side is null (01, One row)
abbrev pub less_entry : Entry → Entry → Entry
less_entry a b = less_pair (pair_of a b)
