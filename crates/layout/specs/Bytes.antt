-- Numbers and bits in bytes (01, Bytes of a rule; Bytes of a table).
use Rattle.std.specs.Prelude.{◌≡◌, Bool, cond, List, [], ◌∷◌, ◌++◌, ℕ, zero, suc, ◌+◌, ◌-◌, ◌*◌, ◌/◌, ◌%◌, ◌^◌, ◌<◌, eqb, leb, length, get_or, take, drop}
use Rattle.std.proofs.lemmas.List.Edits.{sets}

-- a slice of bytes has nothing else in it
abbrev pub Bytes : List ℕ → Type 0
Bytes l = (i : ℕ) → get_or l i 0 < 256

-- the byte at a place
abbrev pub byte : List ℕ → ℕ → ℕ
byte l i = get_or l i 0

-- everything is little-endian (01, Bytes of a rule): the number that bytes are
unfoldable pub number : List ℕ → ℕ
number [] = 0
number (b ∷ l) = b + 256 * number l

-- the number in the k bytes at a place
abbrev pub number_at : ℕ → List ℕ → ℕ → ℕ
number_at k l at = number (take k (drop at l))

-- a number in k bytes
unfoldable pub number_bytes : ℕ → ℕ → List ℕ
number_bytes zero n = []
number_bytes (suc k) n = n % 256 ∷ number_bytes k (n / 256)

-- byte position of a row in a bitmap, lowest bit first (01, Bytes of a table)
abbrev pub byte_of_row : ℕ → ℕ
byte_of_row i = i / 8

-- bit position of a row in its byte (01, Bytes of a table)
abbrev pub bit_of_row : ℕ → ℕ
bit_of_row i = i % 8

-- the bit of a row
abbrev pub bit_at : List ℕ → ℕ → Bool
bit_at map i = eqb (byte map (byte_of_row i) / 2 ^ bit_of_row i % 2) 1

-- bitmaps take rows / 8 bytes, rounded up (01, Bytes of a table)
abbrev pub bitmap_length : ℕ → ℕ
bitmap_length rows = (rows + 7) / 8

-- how many of the first rows' bits are set (02, Change 3); spare bits don't count
unfoldable pub set_bits : List ℕ → ℕ → ℕ
set_bits map zero = 0
set_bits map (suc n) = cond (bit_at map n) 1 0 + set_bits map n

-- bits as a number, lowest first
unfoldable pub bit_number : List Bool → ℕ
bit_number [] = 0
bit_number (b ∷ l) = cond b 1 0 + 2 * bit_number l

-- bits as a bitmap; spare bits are zero on writing (01, Bytes of a table)
abbrev pub bitmap : List Bool → List ℕ
bitmap bits = number_bytes (bitmap_length (length bits)) (bit_number bits)

-- the part from one place to another
abbrev pub part : List ℕ → ℕ → ℕ → List ℕ
part l from to = take (to - from) (drop from l)

-- a number written into k bytes at a place where they fit, and nothing changed where they don't
pub record Written (k : ℕ) (l : List ℕ) (at n : ℕ) (done : Bool) (l' : List ℕ) : Type 0 where
  pub says : done ≡ leb (at + k) (length l)
  pub holds : l' ≡ cond done (sets l at (number_bytes k n)) l

-- bytes written into the part at a place where they fit, with all before and behind them as it was, and nothing changed where they don't
pub record PartWritten (l : List ℕ) (at : ℕ) (bytes : List ℕ) (done : Bool) (l' : List ℕ) : Type 0 where
  pub says : done ≡ leb (at + length bytes) (length l)
  pub holds : l' ≡ cond done (take at l ++ bytes ++ drop (at + length bytes) l) l
