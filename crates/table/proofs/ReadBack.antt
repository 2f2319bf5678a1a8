-- The bytes of a table within the limits are read as that table. Assumes nothing.
use mathlib.Core.Path.{◌≡◌, refl, sym, ap, ◌∙◌}
use mathlib.Core.Bool.{true, or-true}
use mathlib.Core.List.{List, [], ◌∷◌, ◌++◌, append_assoc}
use mathlib.Core.Logic.{◌⊎◌, ⊎_elim}
use mathlib.Core.Option.{Option, some, none}
use Prim.Native.Nat.{ℕ, zero, suc, ◌+◌, ◌*◌, ◌<◌, ◌≤◌}
use native.Mathlib.Omega.{arith}
use lib.Dec.{eqb}
use lib.ListN.{length, length-append}
use borrow.Author.Tests.{eqb-true, eq-eqb, le-leb, lt-ltb}
use Rattle.layout.specs.Result.{ok}
use Rattle.layout.specs.Bytes.{number, number_bytes, bitmap_length}
use Rattle.layout.specs.Field.{field_bytes}
use Rattle.layout.proofs.BytesLaws.{length_number_bytes, number_number_bytes}
use Rattle.layout.proofs.FieldLaws.{header_field, length_field}
use Rattle.layout.proofs.TestLaws.{both_hold}
use Rattle.scalar.specs.declared.types.DataType.{DataType}
use Rattle.scalar.specs.declared.types.DataType.TheVariants.{Boolean, Int32, Int64, Float64, Utf8}
use Rattle.scalar.specs.Types.{type_number, mark_number}
use Rattle.scalar.proofs.TypeLaws.{type_numbered_back, mark_numbered_back}
use Rattle.table.specs.Column.{TableColumn, null_count, offset_at}
use Rattle.table.specs.Reading.{tagged, tagged_pair, read_count, read_validity, read_text_offsets, read_offsets, values_length, read_values, read_body, read_parts, count_says, read_column, read_columns, bytes_most, rows_most, columns_most, read_table}
use Rattle.table.specs.TableBytes.{offsets_field, count_field, column_bytes, columns_bytes, table_bytes, OffsetsWithin, PartsWithin, ColumnWithin, EachWithin, TableReadsBack}
use Rattle.table.proofs.ReadLaws.{columns_next}

-- ---- fields

-- a field's bytes are read as that field
pub tagged_back : (tag : ℕ) (content rest : List ℕ) → length content < 65536
    → tagged tag (field_bytes tag content ++ rest) ≡ ok (record { tag = tag; content = content; rest = rest })
unfolding tagged
tagged_back tag content rest h = rw (header_field 9 tag content rest h, eq-eqb tag tag refl)

-- a field of two bytes
pub pair_back : (tag : ℕ) (content rest : List ℕ) → length content ≡ 2
    → tagged_pair tag (field_bytes tag content ++ rest) ≡ ok (record { tag = tag; content = content; rest = rest })
unfolding tagged_pair
pair_back tag content rest h = rw (tagged_back tag content rest (omega arith), h)

-- ---- a column

-- a null count, where it is written, fits a field
abbrev pub CountShort : Option (List ℕ) → Type 0
CountShort none = Unit {0}
CountShort (some content) = length content < 65536

-- one that says a number does
count_short : (nulls : Option (List ℕ)) (n : ℕ) → count_says nulls n ≡ true → CountShort nulls
count_short none n h = tt
count_short (some content) n h =
    let two : length content ≡ 2 = eqb-true _ _ (both_hold (eqb (length content) 2) (eqb (number content) n) h).0 in
    omega arith

-- tag 6, or none, is read back before tag 3
count_back : (nulls : Option (List ℕ)) (validity rest : List ℕ) → CountShort nulls
    → read_count (count_field nulls ++ (field_bytes 3 validity ++ rest)) ≡ ok (record { part = nulls; rest = field_bytes 3 validity ++ rest })
unfolding read_count field_bytes
count_back none validity rest h = refl
count_back (some content) validity rest h = rw (tagged_back 6 content (field_bytes 3 validity ++ rest) h)

-- tag 3 is read back
validity_back : (rows : ℕ) (validity rest : List ℕ) → rows ≤ 512 → (length validity ≡ 0) ⊎ (length validity ≡ bitmap_length rows)
    → read_validity rows (field_bytes 3 validity ++ rest) ≡ ok (record { part = validity; rest = rest })
unfolding read_validity
validity_back rows validity rest h =
    ⊎_elim
    (λ (e : length validity ≡ 0). rw (tagged_back 3 validity rest (omega arith), eq-eqb (length validity) 0 e))
    (λ (e : length validity ≡ bitmap_length rows). rw (tagged_back 3 validity rest (omega arith), eq-eqb (length validity) (bitmap_length rows) e, or-true (eqb (length validity) 0)))

-- tag 5 is read back
offsets_back : (t : DataType) (rows : ℕ) (offsets rest : List ℕ) → rows ≤ 512 → OffsetsWithin t rows offsets
    → read_offsets t rows (offsets_field t offsets ++ rest) ≡ ok (record { part = offsets; rest = rest })
unfolding read_text_offsets
offsets_back Boolean rows offsets rest h e = ap (λ (o : List ℕ). ok (record { part = o; rest = rest })) (sym e)
offsets_back Int32 rows offsets rest h e = ap (λ (o : List ℕ). ok (record { part = o; rest = rest })) (sym e)
offsets_back Int64 rows offsets rest h e = ap (λ (o : List ℕ). ok (record { part = o; rest = rest })) (sym e)
offsets_back Float64 rows offsets rest h e = ap (λ (o : List ℕ). ok (record { part = o; rest = rest })) (sym e)
offsets_back Utf8 rows offsets rest h w =
    let l : length offsets ≡ 4 * suc rows = w.size in
    rw (tagged_back 5 offsets rest (omega arith), eq-eqb (length offsets) (4 * suc rows) l, eq-eqb (offset_at offsets 0) 0 w.first, w.rising)

-- tag 4 is read back
values_back : (t : DataType) (rows : ℕ) (offsets values rest : List ℕ) → length values < 65536 → length values ≡ values_length t rows offsets
    → read_values t rows offsets (field_bytes 4 values ++ rest) ≡ ok (record { part = values; rest = rest })
unfolding read_values
values_back t rows offsets values rest h e = rw (tagged_back 4 values rest h, eq-eqb _ _ e)

-- a column's bytes are read as that column, whatever its nulls and their count
pub parts_back : (rows : ℕ) (c : TableColumn) (rest : List ℕ) → rows ≤ 512 → length c.values < 65536 → CountShort c.nulls → PartsWithin rows c
    → read_parts rows (column_bytes c ++ rest) ≡ ok (record { part = c; rest = rest })
unfolding read_parts read_body column_bytes
parts_back rows c rest h k s w = simp append_assoc
    (rw (
      pair_back 2 (type_number c.type ∷ mark_number c.nullable ∷ []) (count_field c.nulls ++ (field_bytes 3 c.validity ++ (offsets_field c.type c.offsets ++ (field_bytes 4 c.values ++ rest)))) refl,
      type_numbered_back 11 c.type,
      mark_numbered_back 11 c.nullable,
      count_back c.nulls c.validity (offsets_field c.type c.offsets ++ (field_bytes 4 c.values ++ rest)) s,
      validity_back rows c.validity (offsets_field c.type c.offsets ++ (field_bytes 4 c.values ++ rest)) h w.validity,
      offsets_back c.type rows c.offsets (field_bytes 4 c.values ++ rest) h w.offsets,
      values_back c.type rows c.offsets c.values rest k w.values,
    ))

-- and so they are where both are tested
column_back : (rows : ℕ) (c : TableColumn) (rest : List ℕ) → rows ≤ 512 → length c.values < 65536 → ColumnWithin rows c
    → read_column rows (column_bytes c ++ rest) ≡ ok (record { part = c; rest = rest })
unfolding read_column
column_back rows c rest h k w = rw (parts_back rows c rest h k (count_short c.nulls (null_count c.validity rows) w.count) w.parts, w.nulls, w.count)

-- ---- the columns

-- a column takes its values and at least eleven bytes more
column_size : (c : TableColumn) → length c.values + 11 ≤ length (column_bytes c)
unfolding column_bytes
column_size c =
    let head : List ℕ = field_bytes 2 (type_number c.type ∷ mark_number c.nullable ∷ []) in
    let offsets : List ℕ = offsets_field c.type c.offsets in
    let count : List ℕ = count_field c.nulls in
    let a = length-append head (count ++ (field_bytes 3 c.validity ++ (offsets ++ field_bytes 4 c.values))) in
    let e = length-append count (field_bytes 3 c.validity ++ (offsets ++ field_bytes 4 c.values)) in
    let b = length-append (field_bytes 3 c.validity) (offsets ++ field_bytes 4 c.values) in
    let d = length-append offsets (field_bytes 4 c.values) in
    omega (arith, length_field 2 (type_number c.type ∷ mark_number c.nullable ∷ []), length_field 3 c.validity, length_field 4 c.values)

columns_back : (rows left : ℕ) (cs : List TableColumn) → rows ≤ 512 → length cs ≤ left → length (columns_bytes cs) ≤ bytes_most → EachWithin rows cs
    → read_columns rows left (columns_bytes cs) ≡ ok cs
unfolding read_columns columns_bytes
columns_back rows zero [] h k b w = refl
columns_back rows (suc left) [] h k b w = refl
columns_back rows zero (c ∷ cs) h k b w = absurd (omega arith)
columns_back rows (suc left) (c ∷ cs) h k b w =
    let size = length-append (column_bytes c) (columns_bytes cs) in
    let most = column_size c in
    columns_next rows left (column_bytes c ++ columns_bytes cs) (omega arith)
    ∙ rw (column_back rows c (columns_bytes cs) h (omega arith) (w 0 c refl), columns_back rows left cs h (omega arith) (omega arith) (λ i d e. w (suc i) d e))

-- ---- the table

pub table_reads_back : TableReadsBack
unfolding read_table table_bytes
table_reads_back t w =
    let first : List ℕ = field_bytes 1 (number_bytes 2 t.rows) in
    let size = length-append first (columns_bytes t.columns) in
    let some : 0 < length (first ++ columns_bytes t.columns) = omega (arith, length_field 1 (number_bytes 2 t.rows)) in
    let few : length (first ++ columns_bytes t.columns) ≤ bytes_most = w.bytes in
    rw (
      lt-ltb 0 (length (first ++ columns_bytes t.columns)) some,
      le-leb (length (first ++ columns_bytes t.columns)) bytes_most few,
      pair_back 1 (number_bytes 2 t.rows) (columns_bytes t.columns) (length_number_bytes 2 t.rows),
      number_number_bytes 2 t.rows (omega (arith, w.rows)),
      le-leb t.rows rows_most w.rows,
      columns_back t.rows columns_most t.columns w.rows w.columns (omega arith) w.each,
    )
