-- Null counts by example (02, Change 3): tables with tag 6 that are accepted, and the numbers with which others are refused. Assumes nothing.
use mathlib.Core.Path.{◌≡◌, refl}
use mathlib.Core.Bool.{true, false}
use mathlib.Core.List.{List, [], ◌∷◌, ◌++◌}
use mathlib.Core.Option.{Option, some, none}
use Prim.Native.Nat.{ℕ}
use Rattle.layout.specs.Result.{Result, refused, ok}
use Rattle.layout.specs.Bytes.{number}
use Rattle.layout.specs.Field.{header}
use Rattle.scalar.specs.declared.types.DataType.TheVariants.{Boolean}
use Rattle.scalar.specs.Types.{type_numbered, mark_numbered}
use Rattle.table.specs.Column.{null_count}
use Rattle.table.specs.Reading.{tagged, tagged_pair, read_count, read_validity, read_values, read_body, read_parts, no_null, read_column, read_columns, Table, read_table, read_alone}

-- the readings with all that they run through: to unfold it computes both
unfoldable reading : List ℕ → Result Table
unfolding number header type_numbered mark_numbered null_count tagged tagged_pair read_count read_validity read_values read_body read_parts no_null read_column read_columns read_table read_alone
reading = read_table

-- ---- three rows of Booleans: true, null, true

-- a table of three rows and these columns
abbrev three_rows : List ℕ → List ℕ
three_rows columns = 1 ∷ 2 ∷ 0 ∷ 3 ∷ 0 ∷ columns

-- tag 2 of the column, nullable by its mark
abbrev typed : ℕ → List ℕ
typed mark = 2 ∷ 2 ∷ 0 ∷ 1 ∷ mark ∷ []

-- its tags 3 and 4
abbrev bits : List ℕ
bits = 3 ∷ 1 ∷ 0 ∷ 5 ∷ 4 ∷ 1 ∷ 0 ∷ 5 ∷ []

-- the column, nullable, with these bytes between its tags 2 and 3
abbrev counted : List ℕ → List ℕ
counted count = typed 1 ++ (count ++ bits)

-- the table that is read, with this null count
abbrev found : Option (List ℕ) → Table
found nulls = record { rows = 3; columns = record { type = Boolean; nullable = true; nulls = nulls; validity = 5 ∷ []; offsets = []; values = 5 ∷ [] } ∷ [] }

-- the count is right
pub right : read_table (three_rows (counted (6 ∷ 2 ∷ 0 ∷ 1 ∷ 0 ∷ []))) ≡ ok (found (some (1 ∷ 0 ∷ [])))
unfolding reading
right = refl

-- it isn't written
pub absent : read_table (three_rows (counted [])) ≡ ok (found none)
unfolding reading
absent = refl

-- another value
pub another_value : read_table (three_rows (counted (6 ∷ 2 ∷ 0 ∷ 2 ∷ 0 ∷ []))) ≡ refused 25
unfolding reading
another_value = refl

-- another value in its second byte
pub second_byte : read_table (three_rows (counted (6 ∷ 2 ∷ 0 ∷ 1 ∷ 1 ∷ []))) ≡ refused 25
unfolding reading
second_byte = refl

-- one byte
pub one_byte : read_table (three_rows (counted (6 ∷ 1 ∷ 0 ∷ 1 ∷ []))) ≡ refused 25
unfolding reading
one_byte = refl

-- three bytes
pub three_bytes : read_table (three_rows (counted (6 ∷ 3 ∷ 0 ∷ 1 ∷ 0 ∷ 0 ∷ []))) ≡ refused 25
unfolding reading
three_bytes = refl

-- no byte
pub no_byte : read_table (three_rows (counted (6 ∷ 0 ∷ 0 ∷ []))) ≡ refused 25
unfolding reading
no_byte = refl

-- tag 6 runs past the end
pub cut : read_table (three_rows (typed 1 ++ (6 ∷ 2 ∷ 0 ∷ 1 ∷ []))) ≡ refused 9
unfolding reading
cut = refl

-- its header does
pub header_cut : read_table (three_rows (typed 1 ++ (6 ∷ 2 ∷ []))) ≡ refused 9
unfolding reading
header_cut = refl

-- tag 6 twice
pub doubled : read_table (three_rows (counted (6 ∷ 2 ∷ 0 ∷ 1 ∷ 0 ∷ 6 ∷ 2 ∷ 0 ∷ 1 ∷ 0 ∷ []))) ≡ refused 9
unfolding reading
doubled = refl

-- tag 6 behind tag 3
pub behind_validity : read_table (three_rows (typed 1 ++ (3 ∷ 1 ∷ 0 ∷ 5 ∷ 6 ∷ 2 ∷ 0 ∷ 1 ∷ 0 ∷ 4 ∷ 1 ∷ 0 ∷ 5 ∷ []))) ≡ refused 9
unfolding reading
behind_validity = refl

-- tag 6 behind tag 4
pub behind_values : read_table (three_rows (counted [] ++ (6 ∷ 2 ∷ 0 ∷ 1 ∷ 0 ∷ []))) ≡ refused 9
unfolding reading
behind_values = refl

-- a wrong count waits for the column's end: values of another length are 11
pub length_first : read_table (three_rows (typed 1 ++ (6 ∷ 2 ∷ 0 ∷ 2 ∷ 0 ∷ 3 ∷ 1 ∷ 0 ∷ 5 ∷ 4 ∷ 2 ∷ 0 ∷ 5 ∷ 0 ∷ []))) ≡ refused 11
unfolding reading
length_first = refl

-- and a null in a column that isn't nullable is 12
pub null_first : read_table (three_rows (typed 0 ++ ((6 ∷ 2 ∷ 0 ∷ 2 ∷ 0 ∷ []) ++ bits))) ≡ refused 12
unfolding reading
null_first = refl

-- it is found before the next column's 9
pub next_later : read_table (three_rows (counted (6 ∷ 2 ∷ 0 ∷ 2 ∷ 0 ∷ []) ++ (7 ∷ []))) ≡ refused 25
unfolding reading
next_later = refl

-- which comes where the count is right
pub next_cut : read_table (three_rows (counted (6 ∷ 2 ∷ 0 ∷ 1 ∷ 0 ∷ []) ++ (7 ∷ []))) ≡ refused 9
unfolding reading
next_cut = refl

-- ---- the same column alone

-- a wrong count is found before bytes behind the column
pub alone_count : read_alone 3 (counted (6 ∷ 2 ∷ 0 ∷ 2 ∷ 0 ∷ []) ++ (7 ∷ [])) ≡ refused 25
unfolding reading
alone_count = refl

-- which are 9 where the count is right
pub alone_behind : read_alone 3 (counted (6 ∷ 2 ∷ 0 ∷ 1 ∷ 0 ∷ []) ++ (7 ∷ [])) ≡ refused 9
unfolding reading
alone_behind = refl

-- ---- spare bits

-- nine rows of Booleans, the first null; the seven spare bits of validity are 0
abbrev nine_rows : ℕ → List ℕ
nine_rows count = 1 ∷ 2 ∷ 0 ∷ 9 ∷ 0 ∷ (typed 1 ++ (6 ∷ 2 ∷ 0 ∷ count ∷ 0 ∷ 3 ∷ 2 ∷ 0 ∷ 254 ∷ 1 ∷ 4 ∷ 2 ∷ 0 ∷ 0 ∷ 0 ∷ []))

-- the rows are counted
pub rows_counted : read_table (nine_rows 1)
    ≡ ok (record { rows = 9; columns = record { type = Boolean; nullable = true; nulls = some (1 ∷ 0 ∷ []); validity = 254 ∷ 1 ∷ []; offsets = []; values = 0 ∷ 0 ∷ [] } ∷ [] })
unfolding reading
rows_counted = refl

-- spare bits aren't
pub spare_not_counted : read_table (nine_rows 8) ≡ refused 25
unfolding reading
spare_not_counted = refl

-- ---- no validity bits, or no rows

-- three rows of Booleans, tag 3 empty
abbrev no_validity : ℕ → List ℕ
no_validity count = three_rows (typed 0 ++ (6 ∷ 2 ∷ 0 ∷ count ∷ 0 ∷ 3 ∷ 0 ∷ 0 ∷ 4 ∷ 1 ∷ 0 ∷ 5 ∷ []))

-- no validity bits: no null
pub no_null_lem : read_table (no_validity 0)
    ≡ ok (record { rows = 3; columns = record { type = Boolean; nullable = false; nulls = some (0 ∷ 0 ∷ []); validity = []; offsets = []; values = 5 ∷ [] } ∷ [] })
unfolding reading
no_null_lem = refl

-- so three are too many
pub no_null_counted : read_table (no_validity 3) ≡ refused 25
unfolding reading
no_null_counted = refl

-- a column of no rows
abbrev no_rows : ℕ → List ℕ
no_rows count = 1 ∷ 2 ∷ 0 ∷ 0 ∷ 0 ∷ (typed 1 ++ (6 ∷ 2 ∷ 0 ∷ count ∷ 0 ∷ 3 ∷ 0 ∷ 0 ∷ 4 ∷ 0 ∷ 0 ∷ []))

-- no rows: no null
pub no_row_lem : read_table (no_rows 0)
    ≡ ok (record { rows = 0; columns = record { type = Boolean; nullable = true; nulls = some (0 ∷ 0 ∷ []); validity = []; offsets = []; values = [] } ∷ [] })
unfolding reading
no_row_lem = refl

-- so one is too many
pub no_row_counted : read_table (no_rows 1) ≡ refused 25
unfolding reading
no_row_counted = refl
