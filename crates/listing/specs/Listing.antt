-- The bytes of a listing's lines, in ASCII (01, A listing).
use Rattle.std.specs.Prelude.{Bool, true, false, cond, List, [], ◌∷◌, ◌++◌, ℕ, zero, suc, ◌+◌, ◌/◌, ◌%◌, ltb, ℤ, pos, negsuc}
use Rattle.layout.specs.Result.{Result, refused, ok}
use Rattle.scalar.specs.declared.types.DataType.{DataType}
use Rattle.scalar.specs.Types.{type_number, mark_number}
use Rattle.scalar.specs.Entry.{Entry, null, boolean, int32, int64, float64, utf8}
use Rattle.scalar.specs.Integer.{signed}
use Rattle.table.specs.Column.{TableColumn, entry_at}
use Rattle.table.specs.Reading.{Table, read_table, read_alone}
use Rattle.case.specs.Run.{run}

-- a digit: 0 to 9, then a to f, letters small (01, A listing)
abbrev pub digit : ℕ → ℕ
digit d = cond (ltb d 10) (48 + d) (87 + d)

-- the last k digits of a number in a base, the most significant first (01, A listing)
unfoldable pub digits : ℕ → ℕ → ℕ → List ℕ
digits base zero n = []
digits base (suc k) n = digits base k (n / base) ++ (digit (n % base) ∷ [])

-- how many decimal digits a number has, where it is no greater than the steps left (01, A listing)
unfoldable pub places_within : ℕ → ℕ → ℕ
places_within zero n = 1
places_within (suc left) n = elim (ltb n 10) [ true ↦ 1 | false ↦ suc (places_within left (n / 10)) ]

-- how many decimal digits a number has (01, A listing)
abbrev pub places : ℕ → ℕ
places n = places_within n n

-- a decimal (01, A listing)
abbrev pub decimal : ℕ → List ℕ
decimal n = digits 10 (places n) n

-- a decimal with a minus sign before a negative number (01, A listing)
abbrev pub integer_bytes : ℤ → List ℕ
integer_bytes (pos n) = decimal n
integer_bytes (negsuc n) = 45 ∷ decimal (suc n)

-- a text's bytes in hex (01, A listing)
unfoldable pub hex_bytes : List ℕ → List ℕ
hex_bytes [] = []
hex_bytes (b ∷ text) = digits 16 2 b ++ hex_bytes text

-- `null` (01, A listing)
abbrev pub null_word : List ℕ
null_word = 110 ∷ 117 ∷ 108 ∷ 108 ∷ []

-- `true` or `false` (01, A listing)
abbrev pub truth_word : Bool → List ℕ
truth_word true = 116 ∷ 114 ∷ 117 ∷ 101 ∷ []
truth_word false = 102 ∷ 97 ∷ 108 ∷ 115 ∷ 101 ∷ []

-- an entry: `null`, `true`, `false`, a decimal, 16 hex digits of a float's bits, or `t` and directly the text's bytes in hex (01, A listing)
unfoldable pub entry_bytes : Entry → List ℕ
entry_bytes null = null_word
entry_bytes (boolean b) = truth_word b
entry_bytes (int32 n) = integer_bytes (signed 31 n)
entry_bytes (int64 n) = integer_bytes (signed 63 n)
entry_bytes (float64 n) = digits 16 16 n
entry_bytes (utf8 text) = 116 ∷ hex_bytes text

-- a row's line: its number, from 0, a space, its entry and LF (01, A listing)
abbrev pub row_line : ℕ → Entry → List ℕ
row_line row e = decimal row ++ (32 ∷ []) ++ entry_bytes e ++ (10 ∷ [])

-- `rows ` (01, A listing)
abbrev pub rows_word : List ℕ
rows_word = 114 ∷ 111 ∷ 119 ∷ 115 ∷ 32 ∷ []

-- what follows the row count: ` type T nullable N` and LF (01, A listing)
abbrev pub type_words : ℕ → ℕ → List ℕ
type_words t n =
    32 ∷ 116 ∷ 121 ∷ 112 ∷ 101 ∷ 32 ∷ digit t ∷ 32 ∷ 110 ∷ 117 ∷ 108 ∷ 108 ∷ 97 ∷ 98 ∷ 108 ∷ 101 ∷ 32 ∷ digit n ∷ 10 ∷ []

-- the head line: row count, type, nullable byte (01, A listing)
abbrev pub head_line : ℕ → DataType → Bool → List ℕ
head_line rows t nullable = rows_word ++ decimal rows ++ type_words (type_number t) (mark_number nullable)

-- `refused ` (01, A listing)
abbrev pub refused_word : List ℕ
refused_word = 114 ∷ 101 ∷ 102 ∷ 117 ∷ 115 ∷ 101 ∷ 100 ∷ 32 ∷ []

-- only `refused` and the number (01, A listing)
abbrev pub refused_line : ℕ → List ℕ
refused_line n = refused_word ++ decimal n ++ (10 ∷ [])

-- the lines of the first rows (01, A listing)
unfoldable pub row_lines : TableColumn → ℕ → List ℕ
row_lines c zero = []
row_lines c (suc n) = row_lines c n ++ row_line n (entry_at c n)

-- the head line and each row's (01, A listing)
abbrev pub column_lines : TableColumn → ℕ → List ℕ
column_lines c rows = head_line rows c.type c.nullable ++ row_lines c rows

-- what is printed of an answer of so many rows: the head line and each row's, or only the refusal's (01, A listing)
unfoldable pub listing : ℕ → Result TableColumn → List ℕ
listing rows (ok c) = column_lines c rows
listing rows (refused n) = refused_line n

-- the longest listing of an answer: a head line of 27 bytes, 512 lines of at most 26 bytes beside their text, and 65,535 bytes of text in hex (01, A listing)
abbrev pub listing_most : ℕ
listing_most = 144409

-- how many rows a table has; one that is refused has none
abbrev pub rows_in : Result Table → ℕ
rows_in (refused n) = 0
rows_in (ok t) = t.rows

-- what is printed of a run over so many rows: the answer's listing, or only the refusal's line (01, A listing)
abbrev pub run_lines : ℕ → Result (List ℕ) → List ℕ
run_lines rows (refused n) = refused_line n
run_lines rows (ok bytes) = listing rows (read_alone rows bytes)

-- what is printed of a rule and a table, in a work buffer and an output of two lengths (01, A listing)
unfoldable pub run_listing : List ℕ → List ℕ → ℕ → ℕ → List ℕ
run_listing rule table work output = run_lines (rows_in (read_table table)) (run rule table work output)
