-- The fields of a column: how many bytes they take, and one behind the other. Assumes nothing.
use mathlib.Core.Path.{◌≡◌, refl, sym, ap, ◌∙◌}
use mathlib.Core.Bool.{Bool, true, false}
use mathlib.Core.List.{List, [], ◌∷◌, ◌++◌, append-nil, append_assoc}
use Prim.Native.Nat.{ℕ, zero, suc, ◌+◌, ◌-◌, ◌*◌, ◌<◌, ◌≤◌}
use native.Mathlib.Omega.{arith}
use lib.Dec.{eqb}
use lib.ListN.{length, length-append}
use Rattle.layout.specs.Bytes.{number_bytes, bitmap_length}
use Rattle.layout.specs.Field.{field_bytes}
use Rattle.layout.specs.Put.{Wrote}
use Rattle.layout.proofs.BytesLaws.{length_number_bytes}
use Rattle.scalar.specs.declared.types.DataType.{DataType}
use Rattle.scalar.specs.declared.value.Value.{Value}
use Rattle.scalar.specs.Types.{type_number, mark_number}
use Rattle.scalar.specs.Value.{kind_of}
use Rattle.writer.specs.Slots.{slot_at}
use Rattle.writer.specs.Writing.{BitsWrote, BitFieldWrote, ValidityWrote, row_bytes, some_of_kind, number_of, width_of, row_nulls, row_numbers, row_text, row_offset, row_validity, row_values, row_column, validity_size, values_size}
use Rattle.layout.proofs.FieldLaws.{length_field}
use Rattle.layout.proofs.PutLaws.{wrote_as, wrote_to, wrote_then, wrote_before, wrote_long}
use Rattle.writer.proofs.WroteLaws.{length_rows, wrote_field}
use Rattle.writer.proofs.RowBitLaws.{bits_size}
use Rattle.writer.proofs.RowCountLaws.{count_le, nulls_rest, nulls_none}

-- ---- how many bytes the rows take

-- four or eight for each row
pub numbers_size : (wide : Bool) (v : ℕ → Value) (n : ℕ) → length (row_bytes (row_numbers wide v) n) ≡ width_of wide * n
numbers_size wide v n = length_rows (row_numbers wide v) (width_of wide) (λ i. length_number_bytes (width_of wide) (number_of (v i))) n

-- four for each offset
pub offsets_size : (rule table : List ℕ) (v : ℕ → Value) (n : ℕ) → length (row_bytes (row_offset rule table v) n) ≡ 4 * n
offsets_size rule table v n = length_rows (row_offset rule table v) 4 (λ i. length_number_bytes 4 (length (row_bytes (row_text rule table v) i))) n

-- none where no row has any
pub rows_empty : (f : ℕ → List ℕ) (n : ℕ) → ((i : ℕ) → i < n → f i ≡ []) → length (row_bytes f n) ≡ 0
unfolding row_bytes
rows_empty f zero h = refl
rows_empty f (suc n) h = omega (arith, length-append (row_bytes f n) (f n), rows_empty f n (λ i b. h i (omega arith)), ap length (h n (omega arith)))

-- ---- fields

-- the validity's content
pub validity_size_lem : (null : Bool) (v : ℕ → Value) (rows : ℕ) → length (row_validity null v rows) ≡ validity_size rows null
validity_size_lem true v rows = bits_size false v rows (bitmap_length rows)
validity_size_lem false v rows = refl

-- a field without content is its header
pub empty_field : {out : List ℕ} {at tag p : ℕ} {m : List ℕ} → Wrote out at (tag ∷ number_bytes 2 0) p m → Wrote out at (field_bytes tag []) p m
unfolding field_bytes
empty_field {out} {at} {tag} o = wrote_as (sym (append-nil (tag ∷ number_bytes 2 0))) o

pub values_room : (at rows text n : ℕ) {t s : DataType} → t ≡ s → at + values_size t rows text ≤ n → at + values_size s rows text ≤ n
values_room at rows text n e h = rw e at h

-- the numbers of a column, what their field asks
pub numbers_ask : (wide : Bool) (w : List ℕ) (rows at size n : ℕ) → rows ≤ 512 → size ≡ width_of wide * rows → at + (3 + size) ≤ n
    → (size ≡ length (row_bytes (row_numbers wide (slot_at w)) rows)) × (size < 65536) × (at + 3 + size ≤ n)
numbers_ask wide w rows at size n few e h = (e ∙ sym (numbers_size wide (slot_at w) rows), small wide e, omega arith)
  where
    small : (b : Bool) → size ≡ width_of b * rows → size < 65536
    small true p = omega (arith, few)
    small false p = omega (arith, few)

-- ---- the parts of a column, one behind the other

-- where a header ends
pub header_ends : {out : List ℕ} {at tag p : ℕ} {m : List ℕ} (size : ℕ) → Wrote out at (tag ∷ number_bytes 2 size) p m → p ≡ at + 3
header_ends size o = omega (arith, o.ends, length_number_bytes 2 size)

-- behind a header there is room for its content
pub content_room : {out : List ℕ} {at tag p : ℕ} {m : List ℕ} (size k : ℕ) (content : List ℕ) → Wrote out at (tag ∷ number_bytes 2 size) p m → length content ≡ k → at + 3 + k ≤ length out
    → p + length content ≤ length m
content_room size k content o e h = omega (arith, header_ends size o, wrote_long o)

-- a field of bits, and how many are set
pub bit_field : {out : List ℕ} {at tag p r : ℕ} {m m' : List ℕ} (truth : Bool) (v : ℕ → Value) (rows : ℕ) {size : ℕ} → size ≡ bitmap_length rows → Wrote out at (tag ∷ number_bytes 2 size) p m
    → BitsWrote truth v rows m p r m' → BitFieldWrote tag truth v rows out at r m'
bit_field truth v rows {size} e a b = record {
  written = wrote_to (omega (arith, header_ends size a)) (wrote_field (e ∙ sym (bits_size truth v rows (bitmap_length rows))) a b.written);
  counted = b.counted;
}

-- tag 3 there, and where none is
pub validity_some : {out : List ℕ} {at r : ℕ} {m : List ℕ} (null : Bool) (v : ℕ → Value) (rows : ℕ) → null ≡ true → BitFieldWrote 3 false v rows out at r m → ValidityWrote null v rows out at (rows - r) m
validity_some null v rows e o = rw e (record { written = o.written; counted = nulls_rest v rows o.counted })

pub validity_none : {out : List ℕ} {at p : ℕ} {m : List ℕ} (null : Bool) (v : ℕ → Value) (rows : ℕ) → null ≡ false → null ≡ some_of_kind v 0 rows → Wrote out at (3 ∷ number_bytes 2 0) p m
    → ValidityWrote null v rows out at 0 m
validity_none null v rows e z o =
    rw e (record { written = wrote_to (omega (arith, header_ends 0 o)) (empty_field o); counted = sym (nulls_none v rows (sym z ∙ e)) })

module _ (rule table : List ℕ) (v : ℕ → Value) (rows text : ℕ) {out : List ℕ} {at p : ℕ} {m : List ℕ} (e : text ≡ length (row_bytes (row_text rule table v) rows)) (h : at + values_size DataType.Utf8 rows text ≤ length out)
    (a : Wrote out at (5 ∷ number_bytes 2 (4 * rows + 4)) p m) where
  -- room for the offsets
  pub offsets_ask : p + length (row_bytes (row_offset rule table v) (suc rows)) ≤ length m
  offsets_ask = omega (arith, header_ends (4 * rows + 4) a, wrote_long a, offsets_size rule table v (suc rows))

  module _ {q : ℕ} {m' : List ℕ} (b : Wrote m p (row_bytes (row_offset rule table v) (suc rows)) q m') where
    -- for the header of the texts
    pub second_header : q + 3 + text ≤ length m'
    second_header = omega (arith, header_ends (4 * rows + 4) a, wrote_long a, b.ends, wrote_long b, offsets_size rule table v (suc rows))

    module _ {s : ℕ} {m'' : List ℕ} (c : Wrote m' q (4 ∷ number_bytes 2 text) s m'') where
      -- and for the texts
      pub texts_ask : s + length (row_bytes (row_text rule table v) rows) ≤ length m''
      texts_ask = content_room text text (row_bytes (row_text rule table v) rows) c (sym e) second_header

      -- both fields
      pub text_fields : {r : ℕ} {m''' : List ℕ} → Wrote m'' s (row_bytes (row_text rule table v) rows) r m'''
          → Wrote out at (field_bytes 5 (row_bytes (row_offset rule table v) (suc rows)) ++ field_bytes 4 (row_bytes (row_text rule table v) rows)) r m'''
      text_fields d =
          let size : 4 * rows + 4 ≡ length (row_bytes (row_offset rule table v) (suc rows)) = omega (arith, offsets_size rule table v (suc rows)) in
          wrote_then (wrote_field size a b) (wrote_field e c d)

-- tag 2 takes five bytes
pub type_ends : {out : List ℕ} {at p : ℕ} {m : List ℕ} (t : DataType) (nullable : Bool) → Wrote out at (field_bytes 2 (type_number t ∷ mark_number nullable ∷ [])) p m → p ≡ at + 5
type_ends t nullable o = omega (arith, o.ends, length_field 2 (type_number t ∷ mark_number nullable ∷ []))

-- so does tag 6
pub count_size_lem : (n : ℕ) → length (field_bytes 6 (number_bytes 2 n)) ≡ 5
count_size_lem n = omega (arith, length_field 6 (number_bytes 2 n), length_number_bytes 2 n)

pub count_ends : {out : List ℕ} {at p : ℕ} {m : List ℕ} (n : ℕ) → Wrote out at (field_bytes 6 (number_bytes 2 n)) p m → p ≡ at + 5
count_ends n o = omega (arith, o.ends, count_size_lem n)

module _ (rule table : List ℕ) (v : ℕ → Value) (rows : ℕ) (t : DataType) (nullable null : Bool) (text : ℕ) {out : List ℕ} {p : ℕ} {m : List ℕ} (h : 13 + validity_size rows null + values_size t rows text ≤ length out)
    (a : Wrote out 0 (field_bytes 2 (type_number t ∷ mark_number nullable ∷ [])) p m) where
  -- room for tag 3, behind tag 6
  pub validity_ask : p + 5 + 3 + validity_size rows null ≤ length m
  validity_ask = omega (arith, type_ends t nullable a, wrote_long a)

  module _ {nulls : ℕ} {m' : List ℕ} (b : ValidityWrote null v rows m (p + 5) nulls m') where
    -- for tag 6
    pub count_ask : rows ≤ 512 → (p + 5 ≤ length m') × (nulls < 65536)
    count_ask few = (omega (arith, type_ends t nullable a, wrote_long a, wrote_long b.written), omega (arith, b.counted, count_le (λ i. eqb (kind_of (v i)) 0) rows))

    module _ {q : ℕ} {m'' : List ℕ} (c : Wrote m' p (field_bytes 6 (number_bytes 2 nulls)) q m'') {size : ℕ} (e : size ≡ validity_size rows null) where
      -- and for what is behind tag 3
      pub values_ask : q + 3 + size + values_size t rows text ≤ length m''
      values_ask = omega (arith, type_ends t nullable a, wrote_long a, wrote_long b.written, wrote_long c, count_ends nulls c)

      -- the whole column
      pub column_put : {r : ℕ} {m''' : List ℕ} → Wrote m'' (q + 3 + size) (row_values rule table v rows t) r m''' → Wrote out 0 (row_column rule table v rows t nullable null) r m'''
      column_put d =
          let x = field_bytes 2 (type_number t ∷ mark_number nullable ∷ []) in
          let count = field_bytes 6 (number_bytes 2 nulls) in
          let y = field_bytes 3 (row_validity null v rows) in
          let next : p + 5 ≡ p + length count = omega (arith, count_size_lem nulls) in
          let end : q + 3 + size ≡ p + 5 + 3 + validity_size rows null = omega (arith, count_ends nulls c) in
          let said : x ++ (count ++ y) ≡ x ++ field_bytes 6 (number_bytes 2 (row_nulls v rows)) ++ y =
          sym (append_assoc x count y) ∙ ap (λ (n : ℕ). x ++ field_bytes 6 (number_bytes 2 n) ++ y) b.counted in
          wrote_then (wrote_as said (wrote_then a (wrote_to end (wrote_before next b.written c)))) d
