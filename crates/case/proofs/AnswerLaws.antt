-- The answer's column has the entries that it was made of, and its bytes are read as that column. Assumes nothing.
use Rattle.std.proofs.Common.{◌≡◌, ℕ, zero, suc, ◌+◌, ◌-◌, ◌*◌, ◌^◌, ◌<◌, ◌≤◌, Bool, true, false, cond, not, ◌&&◌, ◌||◌, ltb, leb, ◌⊎◌, List, [], ◌∷◌, ◌++◌, map, length, get_or, take, drop, sym, refl, ap, ◌∙◌, inl, inr, append-nil, mul-zero, arith, length-append, drop-drop, take_at, drop_at, ltb-true, eq-eqb, le-leb}
use mathlib.Core.Bool.{false≢true}
use native.Mathlib.Nat.{one-le-pow}
use lib.ListN.{length-map, get_or-map}
use lib.Seq.{take-length, drop-append-add}
use Rattle.layout.specs.Result.{Result, ok, ◌>>=◌, require}
use Rattle.layout.specs.Bytes.{number, number_at, number_bytes, bit_at, bitmap_length, bitmap}
use Rattle.layout.specs.Field.{field_bytes}
use Rattle.layout.proofs.ResultLaws.{refused_not_ok, ok_injective}
use Rattle.layout.proofs.BytesLaws.{length_number_bytes, number_number_bytes}
use Rattle.layout.proofs.FieldLaws.{length_field}
use Rattle.layout.proofs.BitLaws.{bit_of_bitmap, length_bitmap}
use Rattle.scalar.specs.declared.types.DataType.{DataType}
use Rattle.scalar.specs.declared.types.DataType.TheVariants.{Boolean, Int32, Int64, Float64, Utf8}
use Rattle.scalar.specs.Types.{type_number, mark_number}
use Rattle.scalar.specs.Entry.{Entry, null, boolean, int32, int64, float64, utf8, is_null, is_true_entry, of_type}
use Rattle.table.specs.Column.{TableColumn, valid_in, null_count, offset_at, text_between, value_at, entry_at}
use Rattle.table.specs.Reading.{never_falls, values_length, read_parts, no_null, count_right, read_column, read_columns, Table, bytes_most, rows_most, read_table}
use Rattle.table.specs.TableBytes.{offsets_field, column_bytes, OffsetsWithin}
use Rattle.table.proofs.ReadLaws.{columns_next}
use Rattle.table.proofs.ReadBack.{pair_back, parts_back}
use Rattle.writer.specs.Answer.{some_null, null_entries, count_of, validity_of, number_in, text_in, numbers_of, texts_of, offsets_from, offsets_of, values_of, column_of, text_length}

-- numbers of k bytes, one behind the other
abbrev packed : ℕ → List ℕ → List ℕ
packed k [] = []
packed k (n ∷ ns) = number_bytes k n ++ packed k ns

-- one number takes k bytes
packed_drop : (k n : ℕ) (ns : List ℕ) → drop k (packed k (n ∷ ns)) ≡ packed k ns
packed_drop k n ns = drop_at (number_bytes k n) (packed k ns) k (length_number_bytes k n)

-- and all of them k times their count
length_packed : (k : ℕ) (ns : List ℕ) → length (packed k ns) ≡ k * length ns
length_packed k [] = sym (mul-zero k)
length_packed k (n ∷ ns) = simp (length-append, length_number_bytes, length_packed k ns) (omega arith)

-- the k bytes at k * i are the number i
packed_at : (k : ℕ) (ns : List ℕ) (i : ℕ) → i < length ns → get_or ns i 0 < 256 ^ k → number_at k (packed k ns) (k * i) ≡ get_or ns i 0
packed_at k [] i h b = absurd (omega arith)
packed_at k (n ∷ ns) zero h b = rw (mul-zero k, take_at (number_bytes k n) (packed k ns) k (length_number_bytes k n)) (number_number_bytes k n b)
packed_at k (n ∷ ns) (suc i) h b =
    let e : k * suc i ≡ k + k * i = omega arith in
    rw (e, ← drop-drop (k * i) k (packed k (n ∷ ns)), packed_drop k n ns) (packed_at k ns i (omega arith) b)

-- a column's numbers are packed
numbers_packed : (k : ℕ) (es : List Entry) → numbers_of k es ≡ packed k (map number_in es)
unfolding numbers_of
numbers_packed k [] = refl
numbers_packed k (e ∷ es) = ap (λ l. number_bytes k (number_in e) ++ l) (numbers_packed k es)

-- where each text begins, and where the last ends
abbrev ends : ℕ → List Entry → List ℕ
ends from [] = from ∷ []
ends from (e ∷ es) = from ∷ ends (from + length (text_in e)) es

-- offsets are packed, four bytes each
offsets_packed : (from : ℕ) (es : List Entry) → offsets_from from es ≡ packed 4 (ends from es)
unfolding offsets_from
offsets_packed from [] = sym (append-nil (number_bytes 4 from))
offsets_packed from (e ∷ es) = ap (λ l. number_bytes 4 from ++ l) (offsets_packed (from + length (text_in e)) es)

-- one more than the texts
length_ends : (from : ℕ) (es : List Entry) → length (ends from es) ≡ suc (length es)
length_ends from [] = refl
length_ends from (e ∷ es) = ap suc (length_ends (from + length (text_in e)) es)

-- the length of the first texts
abbrev before : List Entry → ℕ → ℕ
before es i = length (texts_of (take i es))

-- the first text comes first
before_suc : (e : Entry) (es : List Entry) (i : ℕ) → before (e ∷ es) (suc i) ≡ length (text_in e) + before es i
unfolding texts_of
before_suc e es i = length-append (text_in e) (texts_of (take i es))

-- no part is longer than the whole
before_le : (es : List Entry) (i : ℕ) → before es i ≤ text_length es
unfolding texts_of
before_le es zero = omega arith
before_le [] (suc i) = omega arith
before_le (e ∷ es) (suc i) = let h = before_le es i in simp length-append (omega arith)

-- each text begins behind those before it
end_at : (from : ℕ) (es : List Entry) (i : ℕ) → i ≤ length es → get_or (ends from es) i 0 ≡ from + before es i
unfolding texts_of
end_at from [] zero h = omega arith
end_at from [] (suc i) h = absurd (omega arith)
end_at from (e ∷ es) zero h = omega arith
end_at from (e ∷ es) (suc i) h = let k = end_at (from + length (text_in e)) es i (omega arith) in let s = before_suc e es i in omega arith

-- as its offset says
offset_at_lem : (from : ℕ) (es : List Entry) (i : ℕ) → from + text_length es < 2 ^ 32 → i ≤ length es → offset_at (offsets_from from es) i ≡ from + before es i
offset_at_lem from es i b h =
    let l = length_ends from es in let e = end_at from es i h in let k = before_le es i in
    rw (offsets_packed from es) (packed_at 4 (ends from es) i (omega arith) (omega arith) ∙ e)

-- where the offsets begin at 0
offset_from_start : (es : List Entry) (i : ℕ) → text_length es < 2 ^ 32 → i ≤ length es → offset_at (offsets_from 0 es) i ≡ before es i
offset_from_start es i b h = let e = offset_at_lem 0 es i (omega arith) h in omega arith

-- the text between two offsets is the entry's
text_at : (es : List Entry) (i : ℕ) → i < length es → text_between (before es i) (before es (suc i)) (texts_of es) ≡ text_in (get_or es i null)
unfolding texts_of
text_at [] i h = absurd (omega arith)
text_at (e ∷ es) zero h = let k : length (text_in e) ≡ length (text_in e ++ []) - 0 = simp append-nil (omega arith) in take_at (text_in e) (texts_of es) _ k
text_at (e ∷ es) (suc i) h =
    let k : length (text_in e) + before es (suc i) - (length (text_in e) + before es i) ≡ before es (suc i) - before es i = omega arith in
    rw (before_suc e es i, before_suc e es (suc i), k, drop-append-add (text_in e) (texts_of es) (before es i)) (text_at es i (omega arith))

-- a bit for each entry
length_bits : (f : Entry → Bool) (es : List Entry) → length (bitmap (map f es)) ≡ bitmap_length (length es)
length_bits f es = length_bitmap (map f es) ∙ ap bitmap_length (length-map es f)

-- an entry's bit
bits_at : (f : Entry → Bool) (es : List Entry) (i : ℕ) → i < length es → f null ≡ false → bit_at (bitmap (map f es)) i ≡ f (get_or es i null)
bits_at f es i h z = bit_of_bitmap (map f es) i (rw (length-map es f) h) ∙ ap (get_or (map f es) i) (sym z) ∙ get_or-map f es i null

-- an entry that is not null
abbrev is_valid : Entry → Bool
is_valid e = not (is_null e)

-- a bitmap that is there is read
valid_bits : (l : List ℕ) (i : ℕ) → 0 < length l → valid_in l i ≡ bit_at l i
valid_bits [] i h = absurd (omega arith)
valid_bits (b ∷ l) i h = refl

-- neither of two
or_false_inv : (a b : Bool) → (a || b) ≡ false → (a ≡ false) × (b ≡ false)
or_false_inv true b h = absurd (false≢true (sym h))
or_false_inv false b h = (refl, h)

-- where no entry is null
none_null : (es : List Entry) (i : ℕ) → some_null es ≡ false → i < length es → is_null (get_or es i null) ≡ false
unfolding some_null
none_null [] i h k = absurd (omega arith)
none_null (e ∷ es) zero h k = (or_false_inv (is_null e) (some_null es) h).0
none_null (e ∷ es) (suc i) h k = none_null es i (or_false_inv (is_null e) (some_null es) h).1 (omega arith)

-- validity bits say which entries are null
valid_at : (es : List Entry) (i : ℕ) → i < length es → valid_in (validity_of es) i ≡ is_valid (get_or es i null)
valid_at es i h = go (some_null es) refl
  where
    go : (b : Bool) → some_null es ≡ b → valid_in (cond b (bitmap (map is_valid es)) []) i ≡ is_valid (get_or es i null)
    go false e = rw (none_null es i e h)
    go true e =
        let l = length_bits is_valid es in
        let k : 0 < length (bitmap (map is_valid es)) = omega arith in
        valid_bits (bitmap (map is_valid es)) i k ∙ bits_at is_valid es i h refl

-- what a column of a type keeps of an entry
abbrev kept : DataType → Entry → Entry
kept Boolean e = boolean (is_true_entry e)
kept Int32 e = int32 (number_in e)
kept Int64 e = int64 (number_in e)
kept Float64 e = float64 (number_in e)
kept Utf8 e = utf8 (text_in e)

-- bytes of a number of a type
abbrev width : DataType → ℕ
width Boolean = 0
width Int32 = 4
width Int64 = 8
width Float64 = 8
width Utf8 = 0

-- nothing of an entry of the type is lost, and its number fits
kept_whole : (t : DataType) (e : Entry) → of_type t e ≡ true → (cond (is_valid e) (kept t e) null ≡ e) × (number_in e < 256 ^ width t)
unfolding of_type
kept_whole t null h = (refl, one-le-pow (width t) 256 (omega arith))
kept_whole Boolean (boolean b) h = (refl, omega arith)
kept_whole Int32 (boolean b) h = absurd (false≢true h)
kept_whole Int64 (boolean b) h = absurd (false≢true h)
kept_whole Float64 (boolean b) h = absurd (false≢true h)
kept_whole Utf8 (boolean b) h = absurd (false≢true h)
kept_whole Boolean (int32 n) h = absurd (false≢true h)
kept_whole Int32 (int32 n) h = (refl, ltb-true n (2 ^ 32) h)
kept_whole Int64 (int32 n) h = absurd (false≢true h)
kept_whole Float64 (int32 n) h = absurd (false≢true h)
kept_whole Utf8 (int32 n) h = absurd (false≢true h)
kept_whole Boolean (int64 n) h = absurd (false≢true h)
kept_whole Int32 (int64 n) h = absurd (false≢true h)
kept_whole Int64 (int64 n) h = (refl, ltb-true n (2 ^ 64) h)
kept_whole Float64 (int64 n) h = absurd (false≢true h)
kept_whole Utf8 (int64 n) h = absurd (false≢true h)
kept_whole Boolean (float64 n) h = absurd (false≢true h)
kept_whole Int32 (float64 n) h = absurd (false≢true h)
kept_whole Int64 (float64 n) h = absurd (false≢true h)
kept_whole Float64 (float64 n) h = (refl, ltb-true n (2 ^ 64) h)
kept_whole Utf8 (float64 n) h = absurd (false≢true h)
kept_whole Boolean (utf8 s) h = absurd (false≢true h)
kept_whole Int32 (utf8 s) h = absurd (false≢true h)
kept_whole Int64 (utf8 s) h = absurd (false≢true h)
kept_whole Float64 (utf8 s) h = absurd (false≢true h)
kept_whole Utf8 (utf8 s) h = (refl, omega arith)

-- the bytes of an entry in a column of numbers
numbers_at : (k : ℕ) (es : List Entry) (i : ℕ) → i < length es → number_in (get_or es i null) < 256 ^ k → number_at k (numbers_of k es) (k * i) ≡ number_in (get_or es i null)
numbers_at k es i h b =
    let e : get_or (map number_in es) i 0 ≡ number_in (get_or es i null) = get_or-map number_in es i null in
    let l = length-map es number_in in
    rw (numbers_packed k es) (packed_at k (map number_in es) i (omega arith) (omega arith) ∙ e)

-- the value at a row is what is kept of its entry
value_at_lem : (t : DataType) (es : List Entry) (i : ℕ) → i < length es → text_length es < 2 ^ 32 → number_in (get_or es i null) < 256 ^ width t
    → value_at t (offsets_of t es) (values_of t es) i ≡ kept t (get_or es i null)
unfolding value_at
value_at_lem Boolean es i h k b = ap boolean (bits_at is_true_entry es i h refl)
value_at_lem Int32 es i h k b = ap int32 (numbers_at 4 es i h b)
value_at_lem Int64 es i h k b = ap int64 (numbers_at 8 es i h b)
value_at_lem Float64 es i h k b = ap float64 (numbers_at 8 es i h b)
value_at_lem Utf8 es i h k b =
    ap utf8 (rw (offset_from_start es i k (omega arith), offset_from_start es (suc i) k h) (text_at es i h))

-- every entry is of the type
abbrev pub AllOfType : DataType → List Entry → Type 0
AllOfType t es = (i : ℕ) → of_type t (get_or es i null) ≡ true

-- a column has the entries that it was made of
pub entry_back : (t : DataType) (n : Bool) (es : List Entry) → AllOfType t es → text_length es < 2 ^ 32 → (i : ℕ) → i < length es
    → entry_at (column_of t n es) i ≡ get_or es i null
unfolding entry_at
entry_back t n es a k i h =
    let w = kept_whole t (get_or es i null) (a i) in
    rw (valid_at es i h, value_at_lem t es i h k w.1) w.0

-- tag 3 is empty or has a bit for each row
length_validity : (es : List Entry) → (length (validity_of es) ≡ 0) ⊎ (length (validity_of es) ≡ bitmap_length (length es))
length_validity es = go (some_null es)
  where
    go : (b : Bool) → (length (cond b (bitmap (map is_valid es)) []) ≡ 0) ⊎ (length (cond b (bitmap (map is_valid es)) []) ≡ bitmap_length (length es))
    go false = inl refl
    go true = inr (length_bits is_valid es)

-- behind the first offset
offsets_drop : (from : ℕ) (e : Entry) (es : List Entry) → drop 4 (offsets_from from (e ∷ es)) ≡ offsets_from (from + length (text_in e)) es
unfolding offsets_from
offsets_drop from e es = drop_at (number_bytes 4 from) (offsets_from (from + length (text_in e)) es) 4 (length_number_bytes 4 from)

-- offsets never fall
never_falls_lem : (from : ℕ) (es : List Entry) → from + text_length es < 2 ^ 32 → never_falls (length es) (offsets_from from es) ≡ true
unfolding never_falls texts_of
never_falls_lem from [] h = refl
never_falls_lem from (e ∷ es) h =
    let l = length-append (text_in e) (texts_of es) in
    let p = offset_at_lem from (e ∷ es) 0 h (omega arith) in
    let q = offset_at_lem from (e ∷ es) 1 h (omega arith) in
    rw (le-leb (offset_at (offsets_from from (e ∷ es)) 0) (offset_at (offsets_from from (e ∷ es)) 1) (omega arith), offsets_drop from e es) (never_falls_lem (from + length (text_in e)) es (omega arith))

-- rows + 1 offsets of four bytes
length_offsets : (from : ℕ) (es : List Entry) → length (offsets_from from es) ≡ 4 * suc (length es)
length_offsets from es = rw (offsets_packed from es, length_packed 4 (ends from es), length_ends from es)

-- tag 5 is within its limits
offsets_within : (t : DataType) (es : List Entry) → text_length es ≤ 65535 → OffsetsWithin t (length es) (offsets_of t es)
unfolding texts_of
offsets_within Boolean es k = refl
offsets_within Int32 es k = refl
offsets_within Int64 es k = refl
offsets_within Float64 es k = refl
offsets_within Utf8 es k = record { size = length_offsets 0 es; first = offset_from_start es 0 (omega arith) (omega arith); rising = never_falls_lem 0 es (omega arith) }

-- k bytes a row
length_numbers : (k : ℕ) (es : List Entry) → length (numbers_of k es) ≡ k * length es
length_numbers k es = rw (numbers_packed k es, length_packed k (map number_in es), length-map es number_in)

-- tag 4 has the length that a reader asks for
length_values : (t : DataType) (es : List Entry) → text_length es ≤ 65535 → length (values_of t es) ≡ values_length t (length es) (offsets_of t es)
length_values Boolean es k = length_bits is_true_entry es
length_values Int32 es k = length_numbers 4 es
length_values Int64 es k = length_numbers 8 es
length_values Float64 es k = length_numbers 8 es
length_values Utf8 es k = sym (offset_from_start es (length es) (omega arith) (omega arith) ∙ ap text_length (take-length es))

-- and fits a field
values_short : (t : DataType) (es : List Entry) → length es ≤ 512 → text_length es ≤ 65535 → length (values_of t es) < 65536
values_short Boolean es h k = let l = length_values Boolean es k in omega arith
values_short Int32 es h k = let l = length_values Int32 es k in omega arith
values_short Int64 es h k = let l = length_values Int64 es k in omega arith
values_short Float64 es h k = let l = length_values Float64 es k in omega arith
values_short Utf8 es h k = omega arith

-- ---- the null count

-- a row more
nulls_take : (es : List Entry) (n : ℕ) → n < length es → null_entries (take (suc n) es) ≡ cond (is_null (get_or es n null)) 1 0 + null_entries (take n es)
unfolding null_entries
nulls_take [] n h = absurd (omega arith)
nulls_take (e ∷ es) zero h = refl
nulls_take (e ∷ es) (suc n) h = omega (arith, nulls_take es n (omega arith))

-- a count of the null rows of a column's entries, a row after the other, is that of the entries
pub count_entries : (es : List Entry) (c : ℕ → ℕ) → c 0 ≡ 0 → ((n : ℕ) → n < length es → c (suc n) ≡ cond (is_null (get_or es n null)) 1 0 + c n)
    → c (length es) ≡ null_entries es
unfolding null_entries
count_entries es c first next = up_to (length es) (omega arith) ∙ ap null_entries (take-length es)
  where
    up_to : (n : ℕ) → n ≤ length es → c n ≡ null_entries (take n es)
    up_to zero h = first
    up_to (suc n) h = next n h ∙ ap (λ (x : ℕ). cond (is_null (get_or es n null)) 1 0 + x) (up_to n (omega arith)) ∙ sym (nulls_take es n h)

-- the validity has as many nulls as the entries
pub count_back : (es : List Entry) → null_count (validity_of es) (length es) ≡ null_entries es
unfolding null_count
count_back es = count_entries es (null_count (validity_of es)) refl next
  where
    flip : (b : Bool) → ◌≡◌ {A = ℕ} (cond (not b) 0 1) (cond b 1 0)
    flip true = refl
    flip false = refl

    next : (n : ℕ) → n < length es → null_count (validity_of es) (suc n) ≡ cond (is_null (get_or es n null)) 1 0 + null_count (validity_of es) n
    next n h = ap (λ (x : ℕ). x + null_count (validity_of es) n) (ap (λ (b : Bool). cond b 0 1) (valid_at es n h) ∙ flip (is_null (get_or es n null)))

-- no more entries are null than there are
pub nulls_most : (es : List Entry) → null_entries es ≤ length es
unfolding null_entries
nulls_most [] = omega arith
nulls_most (e ∷ es) = go (is_null e) (nulls_most es)
  where
    go : (b : Bool) → null_entries es ≤ length es → cond b 1 0 + null_entries es ≤ suc (length es)
    go true h = omega arith
    go false h = omega arith

-- the answer's null count is right
pub count_right_lem : (t : DataType) (n : Bool) (es : List Entry) → length es ≤ 512 → count_right (column_of t n es) (length es) ≡ true
count_right_lem t n es h =
    let few = nulls_most es in
    let same : number (count_of es) ≡ null_count (validity_of es) (length es) = number_number_bytes 2 (null_entries es) (omega arith) ∙ sym (count_back es) in
    simp (eq-eqb _ _ (length_number_bytes 2 (null_entries es)), eq-eqb _ _ same)

-- ---- reading back

-- the answer's bytes are read as its column
pub column_back : (t : DataType) (n : Bool) (es : List Entry) (rest : List ℕ) → length es ≤ 512 → text_length es ≤ 65535
    → read_parts (length es) (column_bytes (column_of t n es) ++ rest) ≡ ok (record { part = column_of t n es; rest = rest })
column_back t n es rest h k =
    parts_back (length es) (column_of t n es) rest h (values_short t es h k) (omega (arith, length_number_bytes 2 (null_entries es)))
    (record { validity = length_validity es; offsets = offsets_within t es k; values = length_values t es k })

-- its null count stands in the five bytes behind tag 2
pub count_stands : (t : DataType) (n : Bool) (es : List Entry) → take 5 (drop 5 (column_bytes (column_of t n es))) ≡ field_bytes 6 (count_of es)
unfolding column_bytes
count_stands t n es =
    let head : List ℕ = field_bytes 2 (type_number t ∷ mark_number n ∷ []) in
    let rest : List ℕ = field_bytes 3 (validity_of es) ++ (offsets_field t (offsets_of t es) ++ field_bytes 4 (values_of t es)) in
    let five : length head ≡ 5 = length_field 2 (type_number t ∷ mark_number n ∷ []) in
    let size : length (field_bytes 6 (count_of es)) ≡ 5 = omega (arith, length_field 6 (count_of es), length_number_bytes 2 (null_entries es)) in
    ap (take 5) (drop_at head (field_bytes 6 (count_of es) ++ rest) 5 five) ∙ take_at (field_bytes 6 (count_of es)) rest 5 size

-- a column has bytes
some_bytes : (c : TableColumn) → 0 < length (column_bytes c)
unfolding column_bytes field_bytes
some_bytes c = omega arith

-- a test, then a step
required_then : {A B : Type 0} (b : Bool) (m : ℕ) (a : A) (f : A → Result B) → ((require b m >>= λ _. ok a) >>= f) ≡ (require b m >>= λ _. f a)
required_then true m a f = refl
required_then false m a f = refl

-- two tests that were passed
required : {A : Type 0} (b c : Bool) (m k : ℕ) (x y : A) → (require b m >>= λ _. require c k >>= λ _. ok x) ≡ ok y → y ≡ x
required true true m k x y e = sym (ok_injective e)
required true false m k x y e = absurd (refused_not_ok k y e)
required false c m k x y e = absurd (refused_not_ok m y e)

module _ (t : DataType) (n : Bool) (es : List Entry) (h : length es ≤ 512) (k : text_length es ≤ 65535) where
  -- nothing is null, or the column is nullable
  abbrev nulls_allowed : Bool
  nulls_allowed = n || no_null (validity_of es) (length es)

  -- the answer's column, alone
  one_column : read_columns (length es) 16 (column_bytes (column_of t n es)) ≡ (require nulls_allowed 12 >>= λ _. ok (column_of t n es ∷ []))
  unfolding read_column read_columns
  one_column =
      columns_next (length es) 15 (column_bytes (column_of t n es)) (some_bytes (column_of t n es))
      ∙ rw (rw append-nil at (column_back t n es [] h k), count_right_lem t n es h) (required_then nulls_allowed 12 (record { part = column_of t n es; rest = [] }) _)

  -- the answer's bytes behind a row count
  abbrev table_bytes : List ℕ
  table_bytes = field_bytes 1 (number_bytes 2 (length es)) ++ column_bytes (column_of t n es)

  -- a table's size
  abbrev size_allowed : Bool
  size_allowed = ltb 0 (length table_bytes) && leb (length table_bytes) bytes_most

  -- the table of that column alone
  abbrev one_table : Table
  one_table = record { rows = length es; columns = column_of t n es ∷ [] }

  -- the bytes are read as that table, if at all
  one_table_lem : read_table table_bytes ≡ (require size_allowed 9 >>= λ _. require nulls_allowed 12 >>= λ _. ok one_table)
  unfolding read_table
  one_table_lem =
      rw (
        pair_back 1 (number_bytes 2 (length es)) (column_bytes (column_of t n es)) (length_number_bytes 2 (length es)),
        number_number_bytes 2 (length es) (omega arith),
        le-leb (length es) rows_most h,
        one_column,
        required_then {B = Table} nulls_allowed 12 (column_of t n es ∷ []) (λ cs. ok (record { rows = length es; columns = cs })),
      )

  -- which it is where it is accepted
  is_one_table : (table : Table) → read_table table_bytes ≡ ok table → table ≡ one_table
  is_one_table table e = required size_allowed nulls_allowed 9 12 one_table table (sym one_table_lem ∙ e)

-- the answer's bytes behind a row count, where they are accepted as a table, are one column with the same entries
pub answer_table : (t : DataType) (n : Bool) (es : List Entry) (table : Table) → length es ≤ 512 → text_length es ≤ 65535
    → read_table (field_bytes 1 (number_bytes 2 (length es)) ++ column_bytes (column_of t n es)) ≡ ok table
    → (table.rows ≡ length es) × (table.columns ≡ column_of t n es ∷ [])
answer_table t n es table h k e =
    let c = is_one_table t n es h k table e in
    (ap (λ (x : Table). x.rows) c, ap (λ (x : Table). x.columns) c)
