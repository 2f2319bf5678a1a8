-- NOT: null stays null (01, Modules: not.rs).
use Rattle.std.specs.Prelude.{not}
use Rattle.scalar.specs.Entry.{Entry, null, boolean, int32, int64, float64, utf8}

-- NOT takes Boolean (01, Bytes of a rule: Types); it is null at anything else
abbrev pub not_entry : Entry → Entry
not_entry null = null
not_entry (boolean b) = boolean (not b)
not_entry (int32 n) = null
not_entry (int64 n) = null
not_entry (float64 n) = null
not_entry (utf8 t) = null
