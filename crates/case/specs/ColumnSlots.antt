-- The entries of a column in slots, by its type and its parts (01, Bytes of a table).
use Rattle.std.specs.Prelude.{◌≡◌, ℕ, cond, List, ◌≢◌}
use Rattle.scalar.specs.declared.types.DataType.{DataType}
use Rattle.scalar.specs.declared.types.DataType.TheVariants.{Utf8}
use Rattle.scalar.specs.declared.value.Value.{Value}
use Rattle.scalar.specs.Entry.{Entry, null, entry}
use Rattle.scalar.specs.Types.{type_number}
use Rattle.scalar.specs.Value.{meaning, value_of}
use Rattle.table.specs.Column.{valid_in, value_at}

-- a payload that means a row's value, with the number of its type as the kind; not of text
abbrev pub PayloadRight : DataType → List ℕ → ℕ → ℕ → Type 0
PayloadRight t values r p =
    (t ≢ Utf8) → (rule table offsets : List ℕ) → meaning rule table (value_of (type_number t) p) ≡ entry (value_at t offsets values r)

-- a value that means a row's entry; not of text
abbrev pub NumberRight : DataType → List ℕ → List ℕ → ℕ → Value → Type 0
NumberRight t validity values r v =
    (t ≢ Utf8) → (rule table offsets : List ℕ) → meaning rule table v ≡ entry (cond (valid_in validity r) (value_at t offsets values r) null)

-- the entry of a row of text
abbrev pub text_entry : List ℕ → List ℕ → List ℕ → ℕ → Entry
text_entry validity offsets values r = cond (valid_in validity r) (value_at Utf8 offsets values r) null

-- a value that means it: a text is a place of the table
abbrev pub TextRight : List ℕ → List ℕ → List ℕ → List ℕ → ℕ → Value → Type 0
TextRight table validity offsets values r v = (rule : List ℕ) → meaning rule table v ≡ entry (text_entry validity offsets values r)
