-- How far text is ASCII: the table's first line, a byte to a code point.
use Rattle.std.specs.Prelude.{cond, List, [], ◌∷◌, ℕ, suc, ◌+◌, ◌*◌, ◌/◌, ltb, drop}

-- how many bytes, from the first on, are below 80 (hex)
unfoldable pub ascii_length : List ℕ → ℕ
ascii_length [] = 0
ascii_length (b ∷ bytes) = cond (ltb b 0x80) (suc (ascii_length bytes)) 0

-- where the ASCII from a place on ends
abbrev pub ascii_end : List ℕ → ℕ → ℕ
ascii_end bytes at = at + ascii_length (drop at bytes)

-- where whole stretches of 32 bytes of it end
abbrev pub stretches_end : List ℕ → ℕ → ℕ
stretches_end bytes at = at + ascii_length (drop at bytes) / 32 * 32
