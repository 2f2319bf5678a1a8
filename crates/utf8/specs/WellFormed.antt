-- Well-formed UTF-8 (02, Change 8): the Unicode Standard's table of byte sequences (Table 3-7, Well-Formed UTF-8 Byte Sequences), line by line.
use Rattle.std.specs.Prelude.{Bool, true, false, cond, ◌&&◌, List, [], ◌∷◌, ℕ, zero, suc, ◌-◌, eqb, leb, length}
use Rattle.std.proofs.Math.Option.{Option, some, none}

-- a range of numbers, both ends in it
pub record Range : Type 0 where
  pub least : ℕ
  pub greatest : ℕ

infix 70 ◌‥◌
-- written as the table does
abbrev pub ◌‥◌ : ℕ → ℕ → Range
a ‥ b = record { least = a; greatest = b }

-- a number lies in a range
abbrev pub within : Range → ℕ → Bool
within r n = leb r.least n && leb n r.greatest

-- a line of the table: its code points, and the ranges of their sequences' bytes, from the first byte on
pub record Line : Type 0 where
  pub code_points : Range
  pub sequence : List Range

-- a line as the table has it
abbrev pub line : Range → List Range → Line
line c s = record { code_points = c; sequence = s }

-- Table 3-7: code points, first byte, second, third, fourth
abbrev pub byte_sequences : List Line
byte_sequences =
    line (0x0000 ‥ 0x007F) (0x00 ‥ 0x7F ∷ [])
    ∷ line (0x0080 ‥ 0x07FF) (0xC2 ‥ 0xDF ∷ 0x80 ‥ 0xBF ∷ [])
    ∷ line (0x0800 ‥ 0x0FFF) (0xE0 ‥ 0xE0 ∷ 0xA0 ‥ 0xBF ∷ 0x80 ‥ 0xBF ∷ [])
    ∷ line (0x1000 ‥ 0xCFFF) (0xE1 ‥ 0xEC ∷ 0x80 ‥ 0xBF ∷ 0x80 ‥ 0xBF ∷ [])
    ∷ line (0xD000 ‥ 0xD7FF) (0xED ‥ 0xED ∷ 0x80 ‥ 0x9F ∷ 0x80 ‥ 0xBF ∷ [])
    ∷ line (0xE000 ‥ 0xFFFF) (0xEE ‥ 0xEF ∷ 0x80 ‥ 0xBF ∷ 0x80 ‥ 0xBF ∷ [])
    ∷ line (0x10000 ‥ 0x3FFFF) (0xF0 ‥ 0xF0 ∷ 0x90 ‥ 0xBF ∷ 0x80 ‥ 0xBF ∷ 0x80 ‥ 0xBF ∷ [])
    ∷ line (0x40000 ‥ 0xFFFFF) (0xF1 ‥ 0xF3 ∷ 0x80 ‥ 0xBF ∷ 0x80 ‥ 0xBF ∷ 0x80 ‥ 0xBF ∷ [])
    ∷ line (0x100000 ‥ 0x10FFFF) (0xF4 ‥ 0xF4 ∷ 0x80 ‥ 0x8F ∷ 0x80 ‥ 0xBF ∷ 0x80 ‥ 0xBF ∷ [])
    ∷ []

-- bytes begin with a sequence of these ranges
unfoldable pub begins_with : List Range → List ℕ → Bool
begins_with [] bytes = true
begins_with (r ∷ rs) [] = false
begins_with (r ∷ rs) (b ∷ bytes) = within r b && begins_with rs bytes

-- how long the sequence at the start of bytes is, by the first of these lines that has one; 0 where none has
unfoldable pub sequence_among : List Line → List ℕ → ℕ
sequence_among [] bytes = 0
sequence_among (l ∷ ls) bytes = cond (begins_with l.sequence bytes) (length l.sequence) (sequence_among ls bytes)

-- how long the well-formed sequence at the start of bytes is; 0 where there is none
abbrev pub sequence_length : List ℕ → ℕ
sequence_length bytes = sequence_among byte_sequences bytes

-- the place of the first ill-formed sequence, sequences being read one behind another: the bytes start at a place, and so many of them are left of
-- a sequence that was begun
unfoldable pub ill_formed_from : ℕ → ℕ → List ℕ → Option ℕ
ill_formed_from at left [] = none
ill_formed_from at zero (b ∷ bytes) =
    cond (eqb (sequence_length (b ∷ bytes)) 0) (some at) (ill_formed_from (suc at) (sequence_length (b ∷ bytes) - 1) bytes)
ill_formed_from at (suc left) (b ∷ bytes) = ill_formed_from (suc at) left bytes

-- the place of the first ill-formed sequence of a text, if it has one
abbrev pub ill_formed : List ℕ → Option ℕ
ill_formed text = ill_formed_from 0 0 text

-- there is none
abbrev pub is_none : Option ℕ → Bool
is_none none = true
is_none (some place) = false

-- a text is well-formed: sequences of the table one behind another, to its end
unfoldable pub well_formed : List ℕ → Bool
well_formed text = is_none (ill_formed text)
