-- Tagged fields: one-byte tag, two-byte length, content (01, Bytes of a rule).
use Rattle.std.specs.Prelude.{cond, List, ◌∷◌, ◌++◌, ℕ, ◌+◌, ltb, length, take, drop}
use Rattle.layout.specs.Bytes.{byte, number_at, number_bytes}
use Rattle.layout.specs.Result.{Result, refused, ok}

-- a field: its tag, its content, and the bytes behind it (01, Bytes of a rule)
pub record Field : Type 0 where
  pub tag : ℕ
  pub content : List ℕ
  pub rest : List ℕ

-- the length of the content, by the header
abbrev pub content_length : List ℕ → ℕ
content_length l = number_at 2 l 1

-- the field at the start of bytes that hold it
abbrev pub field_at : List ℕ → Field
field_at l = record { tag = byte l 0; content = take (content_length l) (drop 3 l); rest = drop (3 + content_length l) l }

-- the field at the start of what is left of its parent, or the refusal n where the header or the content runs past the end (01, Where a call stops: 2 and 9)
unfoldable pub header : ℕ → List ℕ → Result Field
header n l = cond (ltb (length l) 3) (refused n) (cond (ltb (length l) (3 + content_length l)) (refused n) (ok (field_at l)))

-- a field's bytes
unfoldable pub field_bytes : ℕ → List ℕ → List ℕ
field_bytes tag content = tag ∷ number_bytes 2 (length content) ++ content
