-- The other way to say what is well-formed, by code points and their encoding; and that both say the same.
use Rattle.std.specs.Prelude.{◌≡◌, Bool, true, cond, ◌&&◌, ◌||◌, List, [], ◌∷◌, ◌++◌, ◌↔◌, ℕ, ◌+◌, ◌/◌, ◌%◌, eqb, leb, ltb, length}
use Rattle.std.proofs.Math.Option.{some}
use Rattle.std.proofs.Math.ListN.{get_elem?}
use Rattle.utf8.specs.WellFormed.{Line, within, byte_sequences, begins_with, well_formed}

-- a Unicode scalar value: a code point, up to 10FFFF, that isn't a surrogate, D800 to DFFF
abbrev pub is_scalar_value : ℕ → Bool
is_scalar_value c = ltb c 0xD800 || (leb 0xE000 c && leb c 0x10FFFF)

-- a byte behind the first holds six bits
abbrev pub trailing : ℕ → ℕ
trailing bits = 0x80 + bits % 64

-- the encoding of a code point (the Unicode Standard, Table 3-6, UTF-8 Bit Distribution): 7 bits in one byte, 11 in two, 16 in three, 21 in four, the highest first
unfoldable pub encoding : ℕ → List ℕ
encoding c =
    cond (ltb c 0x80) (c ∷ [])
    (cond (ltb c 0x800) ((0xC0 + c / 64) ∷ trailing c ∷ [])
    (cond (ltb c 0x10000) ((0xE0 + c / 4096) ∷ trailing (c / 64) ∷ trailing c ∷ [])
    ((0xF0 + c / 262144) ∷ trailing (c / 4096) ∷ trailing (c / 64) ∷ trailing c ∷ [])))

-- the encodings of code points, one behind another
unfoldable pub encodings : List ℕ → List ℕ
encodings [] = []
encodings (c ∷ cs) = encoding c ++ encodings cs

-- all are scalar values
unfoldable pub all_scalar_values : List ℕ → Bool
all_scalar_values [] = true
all_scalar_values (c ∷ cs) = is_scalar_value c && all_scalar_values cs

-- bytes are scalar values, encoded one behind another
pub record Encodes (values bytes : List ℕ) : Type 0 where
  pub scalar : all_scalar_values values ≡ true
  pub bytes_are : encodings values ≡ bytes

-- a text is well-formed exactly where it is the encodings of scalar values, one behind another
abbrev pub WellFormedExactly : Type 0
WellFormedExactly = (text : List ℕ) → (well_formed text ≡ true) ↔ ((values : List ℕ) × Encodes values text)

-- and then of these scalar values alone: each has one encoding, and no other has it
abbrev pub EncodesOnce : Type 0
EncodesOnce = (a b text : List ℕ) → Encodes a text → Encodes b text → a ≡ b

-- bytes are a sequence of a line and nothing more
abbrev pub is_sequence : Line → List ℕ → Bool
is_sequence l bytes = begins_with l.sequence bytes && eqb (length bytes) (length l.sequence)

-- each line's sequences are the encodings of the line's code points, and no others
abbrev pub LineExactly : Type 0
LineExactly = (i : ℕ) (l : Line) → get_elem? byte_sequences i ≡ some l → (bytes : List ℕ)
    → (is_sequence l bytes ≡ true) ↔ ((c : ℕ) × (within l.code_points c ≡ true) × (encoding c ≡ bytes))

-- how many of these lines have a code point
unfoldable pub lines_with : ℕ → List Line → ℕ
lines_with c [] = 0
lines_with c (l ∷ ls) = cond (within l.code_points c) 1 0 + lines_with c ls

-- the lines have each scalar value once, and nothing else
abbrev pub EachOnce : Type 0
EachOnce = (c : ℕ) → lines_with c byte_sequences ≡ cond (is_scalar_value c) 1 0
