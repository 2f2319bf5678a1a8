-- A table, and one column alone, are refused with one of 9 to 12, or 25. Assumes nothing.
use mathlib.Core.Path.{◌≡◌, refl}
use mathlib.Core.Bool.{true, false, ◌&&◌, ◌||◌}
use mathlib.Core.List.{List, [], ◌∷◌}
use Prim.Native.Nat.{ℕ, zero, suc, ◌*◌, ◌≤◌}
use lib.Dec.{eqb, leb, ltb}
use lib.ListN.{length}
use Rattle.layout.specs.Result.{refused}
use Rattle.layout.specs.Refusals.{table_refusals, late_refusals, among, number_of, refusal_numbered}
use Rattle.layout.proofs.RefusalLaws.{number_kept}
use Rattle.layout.specs.Bytes.{byte, number, bitmap_length}
use Rattle.layout.specs.Field.{Field}
use Rattle.layout.proofs.ResultLaws.{RefusedAmong, ok_among, refused_among, bind_among, require_among_then, cond_among, among_between, among_apart}
use Rattle.layout.proofs.FieldLaws.{header_among}
use Rattle.scalar.specs.declared.types.DataType.{DataType}
use Rattle.scalar.specs.declared.types.DataType.TheVariants.{Boolean, Int32, Int64, Float64, Utf8}
use Rattle.scalar.proofs.TypeLaws.{type_numbered_among, mark_numbered_among}
use Rattle.table.specs.Column.{offset_at}
use Rattle.table.specs.Reading.{tagged, tagged_pair, read_count, read_validity, never_falls, read_text_offsets, read_offsets, values_length, read_values, read_body, read_parts, no_null, count_right, read_column, read_columns, bytes_most, rows_most, columns_most, read_table, read_alone}

-- the field of a tag is refused with one of the numbers
tagged_among : (tag : ℕ) (bytes : List ℕ) → RefusedAmong table_refusals (tagged tag bytes)
unfolding tagged
tagged_among tag bytes =
    bind_among table_refusals _ _ (header_among table_refusals 9 bytes refl) (λ f. require_among_then table_refusals (eqb f.tag tag) 9 _ refl (λ _. ok_among table_refusals f))

-- and so is one of two bytes
tagged_pair_among : (tag : ℕ) (bytes : List ℕ) → RefusedAmong table_refusals (tagged_pair tag bytes)
unfolding tagged_pair
tagged_pair_among tag bytes =
    bind_among table_refusals _ _ (tagged_among tag bytes) (λ f. require_among_then table_refusals (eqb (length f.content) 2) 9 _ refl (λ _. ok_among table_refusals f))

-- a null count is refused with one of the numbers
count_among : (bytes : List ℕ) → RefusedAmong table_refusals (read_count bytes)
unfolding read_count
count_among bytes =
    cond_among table_refusals (eqb (byte bytes 0) 6) _ _ (bind_among table_refusals _ _ (tagged_among 6 bytes) (λ f. ok_among table_refusals _)) (ok_among table_refusals _)

-- a validity is refused with one of the numbers
validity_among : (rows : ℕ) (bytes : List ℕ) → RefusedAmong table_refusals (read_validity rows bytes)
unfolding read_validity
validity_among rows bytes =
    bind_among table_refusals _ _ (tagged_among 3 bytes) (λ f.
    require_among_then table_refusals (eqb (length f.content) 0 || eqb (length f.content) (bitmap_length rows)) 11 _ refl (λ _. ok_among table_refusals _))

-- a text column's offsets are refused with one of the numbers
text_offsets_among : (rows : ℕ) (bytes : List ℕ) → RefusedAmong table_refusals (read_text_offsets rows bytes)
unfolding read_text_offsets
text_offsets_among rows bytes =
    bind_among table_refusals _ _ (tagged_among 5 bytes) (λ f.
    require_among_then table_refusals (eqb (length f.content) (4 * suc rows)) 11 _ refl (λ _.
    require_among_then table_refusals (eqb (offset_at f.content 0) 0) 11 _ refl (λ _.
    require_among_then table_refusals (never_falls rows f.content) 11 _ refl (λ _. ok_among table_refusals _))))

-- a column's offsets are refused with one of the numbers
offsets_among : (t : DataType) (rows : ℕ) (bytes : List ℕ) → RefusedAmong table_refusals (read_offsets t rows bytes)
offsets_among Boolean rows bytes = ok_among table_refusals _
offsets_among Int32 rows bytes = ok_among table_refusals _
offsets_among Int64 rows bytes = ok_among table_refusals _
offsets_among Float64 rows bytes = ok_among table_refusals _
offsets_among Utf8 rows bytes = text_offsets_among rows bytes

-- a column's values are refused with one of the numbers
values_among : (t : DataType) (rows : ℕ) (offsets bytes : List ℕ) → RefusedAmong table_refusals (read_values t rows offsets bytes)
unfolding read_values
values_among t rows offsets bytes =
    bind_among table_refusals _ _ (tagged_among 4 bytes) (λ f.
    require_among_then table_refusals (eqb (length f.content) (values_length t rows offsets)) 11 _ refl (λ _. ok_among table_refusals _))

-- the parts of a column behind its tag 2 are refused with one of the numbers
body_among : (rows : ℕ) (f : Field) → RefusedAmong table_refusals (read_body rows f)
unfolding read_body
body_among rows f =
    bind_among table_refusals _ _ (type_numbered_among table_refusals 11 (byte f.content 0) refl) (λ t.
    bind_among table_refusals _ _ (mark_numbered_among table_refusals 11 (byte f.content 1) refl) (λ n.
    bind_among table_refusals _ _ (count_among f.rest) (λ k.
    bind_among table_refusals _ _ (validity_among rows k.rest) (λ v.
    bind_among table_refusals _ _ (offsets_among t rows v.rest) (λ o.
    bind_among table_refusals _ _ (values_among t rows o.part o.rest) (λ w. ok_among table_refusals _))))))

-- a column is refused with one of the numbers, whatever its nulls and their count
parts_among : (rows : ℕ) (bytes : List ℕ) → RefusedAmong table_refusals (read_parts rows bytes)
unfolding read_parts
parts_among rows bytes = bind_among table_refusals _ _ (tagged_pair_among 2 bytes) (λ f. body_among rows f)

-- and so it is where both are tested
column_among : (rows : ℕ) (bytes : List ℕ) → RefusedAmong table_refusals (read_column rows bytes)
unfolding read_column
column_among rows bytes =
    bind_among table_refusals _ _ (parts_among rows bytes) (λ c.
    require_among_then table_refusals (c.part.nullable || no_null c.part.validity rows) 12 _ refl (λ _.
    require_among_then table_refusals (count_right c.part rows) 25 _ refl (λ _. ok_among table_refusals c)))

-- the columns are refused with one of the numbers
columns_among : (rows left : ℕ) (bytes : List ℕ) → RefusedAmong table_refusals (read_columns rows left bytes)
unfolding read_columns
columns_among rows zero [] = ok_among table_refusals []
columns_among rows zero (b ∷ bytes) = bind_among table_refusals _ _ (tagged_pair_among 2 (b ∷ bytes)) (λ _. refused_among table_refusals 10 refl)
columns_among rows (suc left) [] = ok_among table_refusals []
columns_among rows (suc left) (b ∷ bytes) =
    bind_among table_refusals _ _ (column_among rows (b ∷ bytes)) (λ c. bind_among table_refusals _ _ (columns_among rows left c.rest) (λ cs. ok_among table_refusals _))

-- a table is refused with one of the numbers
table_among : (bytes : List ℕ) → RefusedAmong table_refusals (read_table bytes)
unfolding read_table
table_among bytes =
    require_among_then table_refusals (ltb 0 (length bytes) && leb (length bytes) bytes_most) 9 _ refl (λ _.
    bind_among table_refusals _ _ (tagged_pair_among 1 bytes) (λ f.
    require_among_then table_refusals (leb (number f.content) rows_most) 10 _ refl (λ _.
    bind_among table_refusals _ _ (columns_among (number f.content) columns_most f.rest) (λ cs. ok_among table_refusals _))))

-- the number that a table is refused with is one of 9 to 12, or 25
pub table_refusals_lem : (bytes : List ℕ) (n : ℕ) → read_table bytes ≡ refused n → among table_refusals n ≡ true
table_refusals_lem bytes n e = (table_among bytes).one n e

-- so it lies between
pub table_bounds : (bytes : List ℕ) (n : ℕ) → read_table bytes ≡ refused n → (9 ≤ n) × (n ≤ 25)
table_bounds bytes n e = among_between 9 25 table_refusals n refl (table_refusals_lem bytes n e)

-- a table is refused before the work of a run begins
pub table_early : (bytes : List ℕ) (n : ℕ) → read_table bytes ≡ refused n → among late_refusals n ≡ false
table_early bytes n e = among_apart table_refusals late_refusals n refl (table_refusals_lem bytes n e)

-- one column alone is refused with one of the numbers
alone_among : (rows : ℕ) (bytes : List ℕ) → RefusedAmong table_refusals (read_alone rows bytes)
unfolding read_alone
alone_among rows bytes =
    require_among_then table_refusals (leb rows rows_most) 10 _ refl (λ _.
    bind_among table_refusals _ _ (parts_among rows bytes) (λ c.
    require_among_then table_refusals (count_right c.part rows) 25 _ refl (λ _.
    require_among_then table_refusals (eqb (length c.rest) 0) 9 _ refl (λ _. ok_among table_refusals _))))

-- its number lies between
pub alone_bounds : (rows : ℕ) (bytes : List ℕ) (n : ℕ) → read_alone rows bytes ≡ refused n → (9 ≤ n) × (n ≤ 25)
alone_bounds rows bytes n e = among_between 9 25 table_refusals n refl ((alone_among rows bytes).one n e)

-- both keep their numbers as refusals
pub table_number : (bytes : List ℕ) (n : ℕ) → read_table bytes ≡ refused n → number_of (refusal_numbered n) ≡ n
table_number bytes n e = number_kept table_refusals n refl ((table_among bytes).one n e)

pub alone_number : (rows : ℕ) (bytes : List ℕ) (n : ℕ) → read_alone rows bytes ≡ refused n → number_of (refusal_numbered n) ≡ n
alone_number rows bytes n e = number_kept table_refusals n refl ((alone_among rows bytes).one n e)
