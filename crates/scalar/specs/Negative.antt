-- Negative: on integers the lowest value negates to itself; on floats the sign bit turns (01, Modules: negative.rs).
use Rattle.scalar.specs.Entry.{Entry, null, boolean, int32, int64, float64, utf8}
use Rattle.scalar.specs.Integer.{negated}
use Rattle.scalar.specs.Float.{sign_turned}

-- negative takes types 2, 3 and 4 (01, Bytes of a rule: Types); it is null at anything else
abbrev pub negative_entry : Entry → Entry
negative_entry null = null
negative_entry (boolean b) = null
negative_entry (int32 n) = int32 (negated 31 n)
negative_entry (int64 n) = int64 (negated 63 n)
negative_entry (float64 n) = float64 (sign_turned 63 n)
negative_entry (utf8 t) = null
