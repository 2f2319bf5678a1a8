-- Try-cast: a value that doesn't fit becomes null (01, Modules: try_cast.rs).
use Rattle.scalar.specs.declared.types.DataType.{DataType}
use Rattle.scalar.specs.Entry.{Entry, null, Outcome, entry, unfit}
use Rattle.scalar.specs.Cast.{cast_entry}

-- what doesn't fit becomes null
abbrev pub or_null : Outcome → Entry
or_null (entry e) = e
or_null unfit = null

-- the same value as the cast, or null (01, Modules: try_cast.rs)
abbrev pub try_cast_entry : DataType → Entry → Entry
try_cast_entry t e = or_null (cast_entry t e)
