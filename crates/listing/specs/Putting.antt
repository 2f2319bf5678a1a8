-- What the writers of a listing promise: bytes at a place of a buffer, or nothing where they don't fit.
use Rattle.std.specs.Prelude.{◌≡◌, Bool, cond, List, [], ◌∷◌, ℕ, ◌+◌, leb, ℤ, length, Option, Some, None}
use Rattle.layout.specs.Put.{wrote}
use Rattle.scalar.specs.declared.value.Value.{Value}
use Rattle.scalar.specs.Entry.{Entry}
use Rattle.scalar.specs.TryCast.{or_null}
use Rattle.scalar.specs.Value.{meaning, place_text}
use Rattle.writer.specs.Written.{output_after}
use Rattle.case.specs.Run.{work_after}
use Rattle.case.specs.Promise.{call_run}
use Rattle.listing.specs.declared.shown.Shown.{Shown}
use Rattle.listing.specs.declared.shown.Shown.TheVariants.{Null, Truth, Number, Negative, Bits, Text}
use Rattle.listing.specs.Listing.{digits, decimal, hex_bytes, null_word, truth_word, integer_bytes, entry_bytes, run_listing}

-- the bytes fit at the place
abbrev pub fits_at : List ℕ → ℕ → List ℕ → Bool
fits_at out at bytes = leb (at + length bytes) (length out)

-- where the bytes fit, they stand at the place, nothing else is changed and the answer is the place behind them; where they don't, nothing is changed and the answer is none
pub record Put (out : List ℕ) (at : ℕ) (bytes : List ℕ) (r : Option ℕ) (out' : List ℕ) : Type 0 where
  pub says : r ≡ cond (fits_at out at bytes) (Some (at + length bytes)) None
  pub holds : out' ≡ cond (fits_at out at bytes) (wrote out at bytes) out

-- the listing of a run at the front of a buffer, where it fits, and the final state of the run's buffers
pub record Listed (rule table work output out : List ℕ) (r : Option ℕ) (work' output' out' : List ℕ) : Type 0 where
  pub put : Put out 0 (run_listing rule table (length work) (length output)) r out'
  pub work_is : work' ≡ work_after (call_run rule table work output) work
  pub output_is : output' ≡ output_after (call_run rule table work output) output

-- the entry that a value is, given the table's bytes; null where it failed
abbrev pub entry_of : List ℕ → Value → Entry
entry_of bytes v = or_null (meaning [] bytes v)

-- the bytes of what is shown of an entry, given the table's bytes
abbrev pub shown_bytes : List ℕ → Shown → List ℕ
shown_bytes bytes Null = null_word
shown_bytes bytes (Truth b) = truth_word b
shown_bytes bytes (Number n) = decimal n
shown_bytes bytes (Negative n) = 45 ∷ decimal n
shown_bytes bytes (Bits n) = digits 16 16 n
shown_bytes bytes (Text start size) = 116 ∷ hex_bytes (place_text bytes start size)

-- what is shown of a value: its entry's bytes, whatever the table's
pub record Shows (v : Value) (s : Shown) : Type 0 where
  pub says : (bytes : List ℕ) → shown_bytes bytes s ≡ entry_bytes (entry_of bytes v)

-- what is shown of an integer, whatever the table's bytes
pub record ShowsInteger (z : ℤ) (s : Shown) : Type 0 where
  pub says : (bytes : List ℕ) → shown_bytes bytes s ≡ integer_bytes z
