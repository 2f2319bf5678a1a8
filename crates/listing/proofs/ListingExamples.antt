-- Document 01's example of a listing, and a line of each kind (01, A listing). Assumes nothing.
use mathlib.Core.Path.{◌≡◌, refl}
use mathlib.Core.Bool.{true, false}
use mathlib.Core.List.{List, [], ◌∷◌}
use Prim.Native.Nat.{ℕ}
use Rattle.layout.specs.Bytes.{number}
use Rattle.layout.specs.Field.{header}
use Rattle.layout.specs.Result.{refused}
use Rattle.scalar.specs.Types.{type_numbered, mark_numbered}
use Rattle.scalar.specs.Entry.{null, boolean, int32, int64, float64, utf8}
use Rattle.table.specs.Column.{null_count, value_at, entry_at}
use Rattle.table.specs.Reading.{tagged, tagged_pair, read_count, read_validity, read_values, read_body, read_parts, read_alone}
use Rattle.listing.specs.Listing.{digits, places_within, hex_bytes, entry_bytes, row_line, row_lines, listing}

-- the answer of the example: four rows of Int32, not nullable, 1 0 0 1
abbrev answer : List ℕ
answer = 2 ∷ 2 ∷ 0 ∷ 2 ∷ 0 ∷ 6 ∷ 2 ∷ 0 ∷ 0 ∷ 0 ∷ 3 ∷ 0 ∷ 0 ∷ 4 ∷ 16 ∷ 0 ∷ 1 ∷ 0 ∷ 0 ∷ 0 ∷ 0 ∷ 0 ∷ 0 ∷ 0 ∷ 0 ∷ 0 ∷ 0 ∷ 0 ∷ 1 ∷ 0 ∷ 0 ∷ 0 ∷ []

-- rows 4 type 2 nullable 0, then 0 1, 1 0, 2 0 and 3 1
pub example : listing 4 (read_alone 4 answer)
    ≡ 114 ∷ 111 ∷ 119 ∷ 115 ∷ 32 ∷ 52 ∷ 32 ∷ 116 ∷ 121 ∷ 112 ∷ 101 ∷ 32 ∷ 50 ∷ 32 ∷ 110 ∷ 117 ∷ 108 ∷ 108 ∷ 97 ∷ 98 ∷ 108 ∷ 101 ∷ 32 ∷ 48 ∷ 10 ∷ 48 ∷ 32 ∷ 49 ∷ 10 ∷ 49 ∷ 32 ∷ 48 ∷ 10 ∷ 50 ∷ 32 ∷ 48 ∷ 10 ∷ 51 ∷ 32 ∷ 49 ∷ 10 ∷ []
unfolding number header type_numbered mark_numbered null_count value_at entry_at tagged tagged_pair read_count read_validity read_values read_body read_parts read_alone digits places_within entry_bytes row_lines listing
example = refl

-- refused 15
pub refused_example : listing 4 (refused 15)
    ≡ 114 ∷ 101 ∷ 102 ∷ 117 ∷ 115 ∷ 101 ∷ 100 ∷ 32 ∷ 49 ∷ 53 ∷ 10 ∷ []
unfolding digits places_within listing
refused_example = refl

-- 0 null
pub null_example : row_line 0 null
    ≡ 48 ∷ 32 ∷ 110 ∷ 117 ∷ 108 ∷ 108 ∷ 10 ∷ []
unfolding digits places_within entry_bytes
null_example = refl

-- 1 true
pub true_example : row_line 1 (boolean true)
    ≡ 49 ∷ 32 ∷ 116 ∷ 114 ∷ 117 ∷ 101 ∷ 10 ∷ []
unfolding digits places_within entry_bytes
true_example = refl

-- 10 false
pub false_example : row_line 10 (boolean false)
    ≡ 49 ∷ 48 ∷ 32 ∷ 102 ∷ 97 ∷ 108 ∷ 115 ∷ 101 ∷ 10 ∷ []
unfolding digits places_within entry_bytes
false_example = refl

-- 99 -1
pub int32_example : row_line 99 (int32 4294967295)
    ≡ 57 ∷ 57 ∷ 32 ∷ 45 ∷ 49 ∷ 10 ∷ []
unfolding digits places_within entry_bytes
int32_example = refl

-- 511 -2147483648
pub lowest_example : row_line 511 (int32 2147483648)
    ≡ 53 ∷ 49 ∷ 49 ∷ 32 ∷ 45 ∷ 50 ∷ 49 ∷ 52 ∷ 55 ∷ 52 ∷ 56 ∷ 51 ∷ 54 ∷ 52 ∷ 56 ∷ 10 ∷ []
unfolding digits places_within entry_bytes
lowest_example = refl

-- 100 -9223372036854775808
pub int64_example : row_line 100 (int64 9223372036854775808)
    ≡ 49 ∷ 48 ∷ 48 ∷ 32 ∷ 45 ∷ 57 ∷ 50 ∷ 50 ∷ 51 ∷ 51 ∷ 55 ∷ 50 ∷ 48 ∷ 51 ∷ 54 ∷ 56 ∷ 53 ∷ 52 ∷ 55 ∷ 55 ∷ 53 ∷ 56 ∷ 48 ∷ 56 ∷ 10 ∷ []
unfolding digits places_within entry_bytes
int64_example = refl

-- 7 9223372036854775807
pub highest_example : row_line 7 (int64 9223372036854775807)
    ≡ 55 ∷ 32 ∷ 57 ∷ 50 ∷ 50 ∷ 51 ∷ 51 ∷ 55 ∷ 50 ∷ 48 ∷ 51 ∷ 54 ∷ 56 ∷ 53 ∷ 52 ∷ 55 ∷ 55 ∷ 53 ∷ 56 ∷ 48 ∷ 55 ∷ 10 ∷ []
unfolding digits places_within entry_bytes
highest_example = refl

-- 2 bff8000000000000, which is -1.5
pub float_example : row_line 2 (float64 13832806255468478464)
    ≡ 50 ∷ 32 ∷ 98 ∷ 102 ∷ 102 ∷ 56 ∷ 48 ∷ 48 ∷ 48 ∷ 48 ∷ 48 ∷ 48 ∷ 48 ∷ 48 ∷ 48 ∷ 48 ∷ 48 ∷ 48 ∷ 10 ∷ []
unfolding digits places_within entry_bytes
float_example = refl

-- 3 t61c3bf0a
pub text_example : row_line 3 (utf8 (97 ∷ 195 ∷ 191 ∷ 10 ∷ []))
    ≡ 51 ∷ 32 ∷ 116 ∷ 54 ∷ 49 ∷ 99 ∷ 51 ∷ 98 ∷ 102 ∷ 48 ∷ 97 ∷ 10 ∷ []
unfolding digits places_within entry_bytes hex_bytes
text_example = refl

-- 4 t
pub empty_example : row_line 4 (utf8 [])
    ≡ 52 ∷ 32 ∷ 116 ∷ 10 ∷ []
unfolding digits places_within entry_bytes hex_bytes
empty_example = refl
