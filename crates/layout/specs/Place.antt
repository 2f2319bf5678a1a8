-- The answer of a header: the field's tag and where its content starts and ends, or none where it is cut.
use Rattle.std.specs.Prelude.{List, ℕ, ◌+◌, length, drop, Option, Some, None}
use Rattle.layout.specs.declared.field.FieldPlace.{FieldPlace}
use Rattle.layout.specs.Result.{Result, refused, ok}
use Rattle.layout.specs.Field.{Field, header}

-- a field that starts at a place, as that place
abbrev pub placed : ℕ → Field → FieldPlace
placed at f = record { tag = f.tag; start = at + 3; end = at + 3 + length f.content }

-- the answer of a header that was read, none where the field is cut
abbrev pub header_of : ℕ → Result Field → Option FieldPlace
header_of at (refused n) = None
header_of at (ok f) = Some (placed at f)

-- the header at a place of a slice
abbrev pub header_at : List ℕ → ℕ → Option FieldPlace
header_at l at = header_of at (header 2 (drop at l))
