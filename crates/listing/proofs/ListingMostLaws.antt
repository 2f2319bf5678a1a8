-- No listing of an answer is longer than the longest. Assumes nothing.
use mathlib.Core.Path.{◌≡◌, refl, sym, ap, subst, ◌∙◌}
use mathlib.Core.Bool.{Bool, true, false, cond, false≢true}
use mathlib.Core.List.{List}
use Prim.Native.Nat.{ℕ, zero, suc, ◌+◌, ◌-◌, ◌*◌, ◌^◌, ◌<◌, ◌≤◌}
use native.Mathlib.Decide.{dec_lt, dec_le}
use native.Mathlib.Numerals.{add-one}
use native.Mathlib.Omega.{arith}
use lib.IntN.{ℤ, pos, negsuc}
use lib.Dec.{eqb, leb}
use lib.ListN.{length, drop, length-append, length-take}
use lib.Signed.{mag}
use borrow.Author.Tests.{eqb-true}
use Rattle.layout.specs.Bytes.{Bytes, byte}
use Rattle.layout.specs.Field.{Field}
use Rattle.layout.specs.Result.{Result, refused, ok}
use Rattle.layout.proofs.ResultLaws.{bind_ok, require_then, ok_injective}
use Rattle.scalar.specs.declared.types.DataType.{DataType}
use Rattle.scalar.specs.declared.types.DataType.TheVariants.{Boolean, Int32, Int64, Float64, Utf8}
use Rattle.scalar.specs.Entry.{Entry, null, boolean, int32, int64, float64, utf8}
use Rattle.scalar.specs.Integer.{signed}
use Rattle.scalar.specs.Types.{type_numbered, mark_numbered}
use Rattle.scalar.proofs.IntegerLaws.{signed_low, signed_high}
use Rattle.table.specs.Column.{TableColumn, valid_in, offset_at, value_at, entry_at}
use Rattle.table.specs.Reading.{Part, tagged, tagged_pair, never_falls, read_count, read_validity, read_text_offsets, read_offsets, values_length, read_values, read_body, read_parts, count_right, read_alone}
use Rattle.table.proofs.OffsetLaws.{Left, falls_start, falls_next, falls_here}
use Rattle.table.proofs.AloneLaws.{alone_short}
use Rattle.table.proofs.RefusalLaws.{alone_bounds}
use Rattle.listing.specs.Listing.{integer_bytes, entry_bytes, row_line, head_line, row_lines, column_lines, listing, listing_most}
use Rattle.listing.proofs.DigitLaws.{length_digits, length_decimal, length_hex, places_most}
use Rattle.listing.proofs.LineLaws.{length_row, length_head, length_refused}

-- a decimal of 64 bits, with its sign
integer_short : (z : ℤ) → mag z < 18446744073709551616 → length (integer_bytes z) ≤ 21
integer_short (pos n) h = omega (arith, length_decimal n, places_most 19 n (omega arith))
integer_short (negsuc n) h = omega (arith, length_decimal (suc n), places_most 19 (suc n) (omega arith))

-- the bits of an Int32 or an Int64 are such an integer, whatever they are
signed_short : (h n : ℕ) → 2 ^ suc h ≤ 18446744073709551616 → 2 ^ h ≤ 18446744073709551616 → mag (signed h n) < 18446744073709551616
signed_short h n wide half = go (dec_lt n (2 ^ h))
  where
    go : Dec (n < 2 ^ h) → mag (signed h n) < 18446744073709551616
    go (yes p) = subst (λ (z : ℤ). mag z < 18446744073709551616) (sym (signed_low h n p)) (omega arith)
    go (no p) = subst (λ (z : ℤ). mag z < 18446744073709551616) (sym (signed_high h n (omega arith))) (omega arith)

-- how long an entry's text is
abbrev text_size : Entry → ℕ
text_size null = 0
text_size (boolean b) = 0
text_size (int32 n) = 0
text_size (int64 n) = 0
text_size (float64 n) = 0
text_size (utf8 t) = length t

-- an entry with its text
entry_short : (e : Entry) → length (entry_bytes e) ≤ 21 + 2 * text_size e
unfolding entry_bytes
entry_short null = omega arith
entry_short (boolean true) = omega arith
entry_short (boolean false) = omega arith
entry_short (int32 n) = omega (arith, integer_short (signed 31 n) (signed_short 31 n (omega arith) (omega arith)))
entry_short (int64 n) = omega (arith, integer_short (signed 63 n) (signed_short 63 n (omega arith) (omega arith)))
entry_short (float64 n) = omega (arith, length_digits 16 16 n)
entry_short (utf8 t) = omega (arith, length_hex t)

-- ---- the texts of a column

-- where the text of a row begins; only a column of text has any
abbrev text_to : DataType → List ℕ → ℕ → ℕ
text_to Boolean offsets i = 0
text_to Int32 offsets i = 0
text_to Int64 offsets i = 0
text_to Float64 offsets i = 0
text_to Utf8 offsets i = offset_at offsets i

-- the offsets of a text never fall, and the last is its length
abbrev TextRises : DataType → ℕ → List ℕ → ℕ → Type 0
TextRises Boolean rows offsets size = Unit {0}
TextRises Int32 rows offsets size = Unit {0}
TextRises Int64 rows offsets size = Unit {0}
TextRises Float64 rows offsets size = Unit {0}
TextRises Utf8 rows offsets size = (never_falls rows offsets ≡ true) × (offset_at offsets rows ≡ size)

-- no offset falls
offset_rises : (l : List ℕ) (rows : ℕ) → never_falls rows l ≡ true → (i : ℕ) → i < rows → offset_at l i ≤ offset_at l (i + 1)
offset_rises l rows h i few = go (dec_le (offset_at l i) (offset_at l (i + 1))) (left i (omega arith))
  where
    step : (k : ℕ) → k < rows → Left l rows k ≡ true → Left l rows (k + 1) ≡ true
    step k p e = at (dec_le (offset_at l k) (offset_at l (k + 1)))
      where
        at : Dec (offset_at l k ≤ offset_at l (k + 1)) → Left l rows (k + 1) ≡ true
        at (yes q) = sym (falls_next l rows k p q) ∙ e
        at (no q) = absurd (false≢true (sym (falls_here l rows k p (omega arith)) ∙ e))

    left : (k : ℕ) → k ≤ rows → Left l rows k ≡ true
    left zero p = sym (falls_start l rows) ∙ h
    left (suc k) p = subst (λ (n : ℕ). Left l rows n ≡ true) (add-one k) (step k (omega arith) (left k (omega arith)))

    go : Dec (offset_at l i ≤ offset_at l (i + 1)) → Left l rows i ≡ true → offset_at l i ≤ offset_at l (i + 1)
    go (yes q) e = q
    go (no q) e = absurd (false≢true (sym (falls_here l rows i few (omega arith)) ∙ e))

-- a value's text ends where the next begins
value_short : (t : DataType) (rows : ℕ) (offsets values : List ℕ) → TextRises t rows offsets (length values) → (i : ℕ) → i < rows
    → text_size (value_at t offsets values i) + text_to t offsets i ≤ text_to t offsets (i + 1)
unfolding value_at
value_short Boolean rows offsets values h i few = omega arith
value_short Int32 rows offsets values h i few = omega arith
value_short Int64 rows offsets values h i few = omega arith
value_short Float64 rows offsets values h i few = omega arith
value_short Utf8 rows offsets values h i few =
    let rise = offset_rises offsets rows h.0 i few in
    let next : offset_at offsets (suc i) ≡ offset_at offsets (i + 1) = ap (offset_at offsets) (sym (add-one i)) in
    omega (arith, length-take (offset_at offsets (suc i) - offset_at offsets i) (drop (offset_at offsets i) values))

-- and so does the beginning of a row without one
begin_rises : (t : DataType) (rows : ℕ) (offsets : List ℕ) (size : ℕ) → TextRises t rows offsets size → (i : ℕ) → i < rows → text_to t offsets i ≤ text_to t offsets (i + 1)
begin_rises Boolean rows offsets size h i few = omega arith
begin_rises Int32 rows offsets size h i few = omega arith
begin_rises Int64 rows offsets size h i few = omega arith
begin_rises Float64 rows offsets size h i few = omega arith
begin_rises Utf8 rows offsets size h i few = offset_rises offsets rows h.0 i few

-- all of them are no longer than the values
text_all : (t : DataType) (rows : ℕ) (offsets : List ℕ) (size : ℕ) → TextRises t rows offsets size → text_to t offsets rows ≤ size
text_all Boolean rows offsets size h = omega arith
text_all Int32 rows offsets size h = omega arith
text_all Int64 rows offsets size h = omega arith
text_all Float64 rows offsets size h = omega arith
text_all Utf8 rows offsets size h = omega (arith, h.1)

-- ---- the lines of a column

-- the texts of a column
abbrev ColumnRises : TableColumn → ℕ → Type 0
ColumnRises c rows = TextRises c.type rows c.offsets (length c.values)

entry_rises : (c : TableColumn) (rows : ℕ) → ColumnRises c rows → (i : ℕ) → i < rows → text_size (entry_at c i) + text_to c.type c.offsets i ≤ text_to c.type c.offsets (i + 1)
unfolding entry_at
entry_rises c rows h i few = go (valid_in c.validity i)
  where
    go : (v : Bool) → text_size (cond v (value_at c.type c.offsets c.values i) null) + text_to c.type c.offsets i ≤ text_to c.type c.offsets (i + 1)
    go true = value_short c.type rows c.offsets c.values h i few
    go false = omega (arith, begin_rises c.type rows c.offsets (length c.values) h i few)

rows_short : (c : TableColumn) (rows : ℕ) → rows ≤ 512 → ColumnRises c rows → (n : ℕ) → n ≤ rows → length (row_lines c n) ≤ 26 * n + 2 * text_to c.type c.offsets n
unfolding row_lines
rows_short c rows few h zero p = omega arith
rows_short c rows few h (suc n) p =
    let before = rows_short c rows few h n (omega arith) in
    let text = entry_rises c rows h n (omega arith) in
    let next : text_to c.type c.offsets (n + 1) ≡ text_to c.type c.offsets (suc n) = ap (text_to c.type c.offsets) (add-one n) in
    omega (arith, length-append (row_lines c n) (row_line n (entry_at c n)), length_row n (entry_bytes (entry_at c n)), places_most 2 n (omega arith), entry_short (entry_at c n))

-- ---- what was read

values_last : (t : DataType) (rows : ℕ) (offsets l : List ℕ) (r : Part (List ℕ)) → read_values t rows offsets l ≡ ok r → length r.part ≡ values_length t rows offsets
unfolding read_values
values_last t rows offsets l r p =
    let f = bind_ok (tagged 4 l) _ r p in
    let a = require_then (eqb (length f.0.content) (values_length t rows offsets)) 11 _ r f.2 in
    subst (λ (x : Part (List ℕ)). length x.part ≡ values_length t rows offsets) (ok_injective a.1) (eqb-true _ _ a.0)

offsets_rise : (rows : ℕ) (l : List ℕ) (r : Part (List ℕ)) → read_text_offsets rows l ≡ ok r → never_falls rows r.part ≡ true
unfolding read_text_offsets
offsets_rise rows l r p =
    let f = bind_ok (tagged 5 l) _ r p in
    let a = require_then (eqb (length f.0.content) (4 * suc rows)) 11 _ r f.2 in
    let b = require_then (eqb (offset_at f.0.content 0) 0) 11 _ r a.1 in
    let d = require_then (never_falls rows f.0.content) 11 _ r b.1 in
    subst (λ (x : Part (List ℕ)). never_falls rows x.part ≡ true) (ok_injective d.1) d.0

parts_rise : (t : DataType) (rows : ℕ) (l m : List ℕ) (o v : Part (List ℕ)) → read_offsets t rows l ≡ ok o → read_values t rows o.part m ≡ ok v → TextRises t rows o.part (length v.part)
parts_rise Boolean rows l m o v p q = tt
parts_rise Int32 rows l m o v p q = tt
parts_rise Int64 rows l m o v p q = tt
parts_rise Float64 rows l m o v p q = tt
parts_rise Utf8 rows l m o v p q = (offsets_rise rows l o p, sym (values_last Utf8 rows o.part m v q))

body_rises : (rows : ℕ) (f : Field) (c : Part TableColumn) → read_body rows f ≡ ok c → ColumnRises c.part rows
unfolding read_body
body_rises rows f c p =
    let t = bind_ok (type_numbered 11 (byte f.content 0)) _ c p in
    let n = bind_ok (mark_numbered 11 (byte f.content 1)) _ c t.2 in
    let k = bind_ok (read_count f.rest) _ c n.2 in
    let y = bind_ok (read_validity rows k.0.rest) _ c k.2 in
    let o = bind_ok (read_offsets t.0 rows y.0.rest) _ c y.2 in
    let v = bind_ok (read_values t.0 rows o.0.part o.0.rest) _ c o.2 in
    subst (λ (x : Part TableColumn). ColumnRises x.part rows) (ok_injective v.2) (parts_rise t.0 rows y.0.rest o.0.rest o.0 v.0 o.1 v.1)

alone_rises : (l : List ℕ) (rows : ℕ) (c : TableColumn) → read_alone rows l ≡ ok c → ColumnRises c rows
unfolding read_alone read_parts
alone_rises l rows c p =
    let a = require_then (leb rows 512) 10 _ c p in
    let d = bind_ok (read_parts rows l) _ c a.1 in
    let k = require_then (count_right d.0.part rows) 25 _ c d.2 in
    let e = (require_then (eqb (length d.0.rest) 0) 9 _ c k.1).1 in
    let f = bind_ok (tagged_pair 2 l) _ d.0 d.1 in
    subst (λ (x : TableColumn). ColumnRises x rows) (ok_injective e) (body_rises rows f.0 d.0 f.2)

-- the lines of an answer's one column fit into the longest listing
pub lines_most : (l : List ℕ) (rows : ℕ) (c : TableColumn) → Bytes l → read_alone rows l ≡ ok c → length (column_lines c rows) ≤ listing_most
lines_most l rows c h e =
    let s = alone_short l rows c h e in
    let rise = alone_rises l rows c e in
    omega (arith, s.0, s.1, rows_short c rows s.0 rise rows (omega arith), text_all c.type rows c.offsets (length c.values) rise, length-append (head_line rows c.type c.nullable) (row_lines c rows), length_head rows c.type c.nullable refl, places_most 2 rows (omega (arith, s.0)))

-- and so does every listing of an answer
pub listing_fits : (l : List ℕ) (rows : ℕ) → Bytes l → length (listing rows (read_alone rows l)) ≤ listing_most
unfolding listing
listing_fits l rows h = go (read_alone rows l) refl
  where
    go : (d : Result TableColumn) → read_alone rows l ≡ d → length (listing rows d) ≤ listing_most
    go (refused n) e = omega (arith, length_refused n refl, places_most 2 n (omega (arith, (alone_bounds rows l n e).1)))
    go (ok c) e = lines_most l rows c h e
