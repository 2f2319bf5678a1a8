-- IS NOT NULL: Boolean, never null (01, Modules: is_not_null.rs).
use Rattle.std.specs.Prelude.{not}
use Rattle.scalar.specs.Entry.{Entry, boolean, is_null}

-- Boolean, never null (01, Modules: is_not_null.rs)
abbrev pub is_not_null_entry : Entry → Entry
is_not_null_entry e = boolean (not (is_null e))
